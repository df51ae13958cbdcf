-- The words and values of options (find, change streams and index specifications).
use Rattle.std.specs.Prelude.{ℤ, pos, List, [], ◌∷◌, codes, string_bytes, Option, Some, None, if◌then◌else◌, ltb, ◌^◌}
use Rattle.std.specs.Str.{bytes_eq}
use Rattle.mg_bson.specs.Tree.{Tree, string, document, array, int32, int64}
use Rattle.mg_link.specs.Words.{Word, spelled, other}
use Rattle.mg_link.specs.Concerns.{Members, so_many, told_by}
use Rattle.mg_options.specs.Printing.{listed}
use Rattle.mg_options.specs.declared.full_document.FullDocumentType.{FullDocumentType}
use Rattle.mg_options.specs.declared.full_document.FullDocumentType.TheVariants as full_document
use Rattle.mg_options.specs.declared.full_document.FullDocumentBeforeChangeType.{FullDocumentBeforeChangeType}
use Rattle.mg_options.specs.declared.full_document.FullDocumentBeforeChangeType.TheVariants as before
use Rattle.mg_options.specs.declared.write_words.ReturnDocument.{ReturnDocument}
use Rattle.mg_options.specs.declared.write_words.ReturnDocument.TheVariants as return_document
use Rattle.mg_options.specs.declared.write_words.Hint.{Hint}
use Rattle.mg_options.specs.declared.write_words.Hint.TheVariants as hint
use Rattle.mg_options.specs.declared.write_words.CommitQuorum.{CommitQuorum}
use Rattle.mg_options.specs.declared.write_words.CommitQuorum.TheVariants as quorum
use Rattle.mg_options.specs.declared.write_words.UpdateModifications.{UpdateModifications}
use Rattle.mg_options.specs.declared.write_words.UpdateModifications.TheVariants as modifications

abbrev pub full_document_word : FullDocumentType → Word
full_document_word full_document.UpdateLookup = spelled "updateLookup"
full_document_word full_document.WhenAvailable = spelled "whenAvailable"
full_document_word full_document.Required = spelled "required"
full_document_word (full_document.Other s) = other (string_bytes s)

abbrev pub full_documents : List FullDocumentType
full_documents = full_document.UpdateLookup ∷ full_document.WhenAvailable ∷ full_document.Required ∷ []

abbrev pub full_document_before_word : FullDocumentBeforeChangeType → Word
full_document_before_word before.WhenAvailable = spelled "whenAvailable"
full_document_before_word before.Required = spelled "required"
full_document_before_word before.Off = spelled "off"
full_document_before_word (before.Other s) = other (string_bytes s)

abbrev pub full_documents_before : List FullDocumentBeforeChangeType
full_documents_before = before.WhenAvailable ∷ before.Required ∷ before.Off ∷ []

abbrev pub return_document_word : ReturnDocument → Word
return_document_word return_document.After = spelled "after"
return_document_word return_document.Before = spelled "before"

abbrev pub return_documents : List ReturnDocument
return_documents = return_document.After ∷ return_document.Before ∷ []

abbrev pub hint_value : Hint → Tree
hint_value (hint.Keys d) = document d
hint_value (hint.Name s) = string (string_bytes s)

-- which servers a quorum tells
abbrev pub quorum_members : CommitQuorum → Members
quorum_members (quorum.Nodes n) = so_many n
quorum_members quorum.VotingMembers = told_by (spelled "votingMembers")
quorum_members quorum.Majority = told_by (spelled "majority")
quorum_members (quorum.Custom s) = told_by (other (string_bytes s))

-- a number of servers, if it is one
abbrev pub counted : ℤ → Option Members
counted (pos n) = if ltb n (2 ^ 32) then Some (so_many n) else None
counted _ = None

-- which servers a value tells: a number or a text
abbrev pub quorum_of : Tree → Option Members
quorum_of (int32 z) = counted z
quorum_of (int64 z) = counted z
quorum_of (string w) = Some (told_by (if bytes_eq w (codes "votingMembers") then spelled "votingMembers" else (if bytes_eq w (codes "majority") then spelled "majority" else other w)))
quorum_of _ = None

-- a document prints as itself, a pipeline as an array
abbrev pub modifications_value : UpdateModifications → Tree
modifications_value (modifications.Document d) = document d
modifications_value (modifications.Pipeline ds) = array (listed document ds.items)
