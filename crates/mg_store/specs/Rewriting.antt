-- What updates and deletes make of the documents of a collection.
use Rattle.std.specs.declared.alloc.Global.{Global}
use Rattle.std.specs.Prelude.{◌≡◌, ℕ, Bool, true, false, ◌&&◌, List, [], ◌∷◌, ◌++◌, map, Result, Ok, Err, Vec}
use Rattle.std.specs.List.{AllByRecursion, filter, list_all}
use Rattle.mg_bson.specs.Tree.{Fields}
use Rattle.mg_link.specs.Namespace.{Space}
use Rattle.mg_server.specs.Rules.{deleted_entries, events_may_be_given, may_be_given, may_stay, modified_entries, modified_event}
use Rattle.mg_server.specs.Write.{Modification, differs, modified}
use Rattle.mg_query.specs.Numbering.{IsExact, IsKeyed, document_of}
use Rattle.mg_query.specs.declared.collection.KeyedDocument.{KeyedDocument}
use Rattle.mg_query.specs.declared.refusal.Refusal.TheVariants as refusals
use Rattle.mg_query.specs.declared.refusal.Stop.{Stop}
use Rattle.mg_query.specs.declared.refusal.Stop.TheVariants as stops
use Rattle.mg_store.specs.Holding.{AreExact, IsEntryOf, entries_from}
use Rattle.mg_store.specs.declared.change.ChangeEntry.{ChangeEntry}
use Rattle.mg_store.specs.declared.rewrite.Changes.{Changes}
use Rattle.mg_store.specs.declared.rewrite.Removals.{Removals}

-- the entry of an event that may be given, or the refusal of another
abbrev pub GivesEvent : Space → Fields → Result ChangeEntry Stop → Type 0
GivesEvent sp event (Ok entry) = IsEntryOf sp event entry × (may_be_given event ≡ true)
GivesEvent sp event (Err stops.Memory) = Unit {0}
GivesEvent sp event (Err (stops.Refused refusal)) = (refusal ≡ refusals.BadRequest) × (may_be_given event ≡ false)

-- ---- a document that is altered

-- the altered document and its entry may stay
abbrev pub one_fits : ℕ → Space → Modification → Fields → Bool
one_fits place sp m d = may_stay (modified m d) && may_be_given (modified_event place sp m d)

-- one altered document more, and its entry
pub record ChangesBy (place : ℕ) (sp : Space) (m : Modification) (d : Fields) (old new : Changes) : Type 0 where
  pub fits : one_fits place sp m d ≡ true
  pub document : KeyedDocument
  pub keyed : IsKeyed document.key.items d
  pub made : document_of document ≡ modified m d
  pub exact : IsExact document.document
  pub entry : ChangeEntry
  pub entry_is : IsEntryOf sp (modified_event place sp m d) entry
  pub documents_are : new.documents.items ≡ old.documents.items ++ document ∷ []
  pub entries_are : new.entries.items ≡ old.entries.items ++ entry ∷ []

abbrev pub ChangesOr : ℕ → Space → Modification → Fields → Changes → Changes → Result (Unit {0}) Stop → Type 0
ChangesOr place sp m d old new (Ok done) = ChangesBy place sp m d old new
ChangesOr place sp m d old new (Err stops.Memory) = Unit {0}
ChangesOr place sp m d old new (Err (stops.Refused refusal)) = (refusal ≡ refusals.BadRequest) × (one_fits place sp m d ≡ false)

-- ---- documents that are altered

-- those that the modification does not leave equal
abbrev pub altering : Modification → List Fields → List Fields
altering m ds = filter (λ d. differs d (modified m d)) ds

-- the new documents, each as its encoding and under the id of the old one
abbrev pub AreMade : Modification → List Fields → List KeyedDocument → Type 0
AreMade m [] [] = Unit {0}
AreMade m [] (k ∷ ks) = ⊥
AreMade m (d ∷ ds) [] = ⊥
AreMade m (d ∷ ds) (k ∷ ks) = IsKeyed k.key.items d × (document_of k ≡ modified m d) × IsExact k.document × AreMade m ds ks

-- all of them and their entries may stay
abbrev pub all_fit : ℕ → Space → Modification → List Fields → Bool
all_fit entries sp m ds = list_all may_stay (map (modified m) ds) && events_may_be_given (modified_entries entries sp m ds)

-- what the modification makes of these documents
pub record Makes (entries : ℕ) (sp : Space) (m : Modification) (ds : List Fields) (c : Changes) : Type 0 where
  pub made : AreMade m (altering m ds) c.documents.items
  pub entries_are : entries_from entries c.entries.items ≡ modified_entries entries sp m (altering m ds)
  pub exact : AreExact c.entries.items
  pub fit : all_fit entries sp m (altering m ds) ≡ true
  pub same : AllByRecursion (λ d. differs d (modified m d) ≡ false → modified m d ≡ d) ds

-- one document more is gone through
abbrev pub MakesOr : ℕ → Space → Modification → List Fields → Fields → Changes → Changes → Result (Unit {0}) Stop → Type 0
MakesOr entries sp m ds d old new (Ok done) = Makes entries sp m ds old → Makes entries sp m (ds ++ d ∷ []) new
MakesOr entries sp m ds d old new (Err stops.Memory) = Unit {0}
MakesOr entries sp m ds d old new (Err (stops.Refused refusal)) = Makes entries sp m ds old → (refusal ≡ refusals.BadRequest) × (all_fit entries sp m (altering m (ds ++ d ∷ [])) ≡ false)

abbrev pub MakesAllOr : ℕ → Space → Modification → List Fields → Result Changes Stop → Type 0
MakesAllOr entries sp m ds (Ok c) = Makes entries sp m ds c
MakesAllOr entries sp m ds (Err stops.Memory) = Unit {0}
MakesAllOr entries sp m ds (Err (stops.Refused refusal)) = (refusal ≡ refusals.BadRequest) × (all_fit entries sp m (altering m ds) ≡ false)

-- ---- documents that are removed

-- the encodings of the ids of the documents
abbrev pub AreIdsOf : List Fields → List (Vec ℕ Global) → Type 0
AreIdsOf [] [] = Unit {0}
AreIdsOf [] (k ∷ ks) = ⊥
AreIdsOf (d ∷ ds) [] = ⊥
AreIdsOf (d ∷ ds) (k ∷ ks) = IsKeyed k.items d × AreIdsOf ds ks

-- the entries of their removal may be given
abbrev pub all_go : ℕ → Space → List Fields → Bool
all_go entries sp ds = events_may_be_given (deleted_entries entries sp ds)

-- what the removal of these documents comes to
pub record Removes (entries : ℕ) (sp : Space) (ds : List Fields) (r : Removals) : Type 0 where
  pub ids : AreIdsOf ds r.ids.items
  pub entries_are : entries_from entries r.entries.items ≡ deleted_entries entries sp ds
  pub exact : AreExact r.entries.items
  pub fit : all_go entries sp ds ≡ true

abbrev pub RemovesOr : ℕ → Space → List Fields → Fields → Removals → Removals → Result (Unit {0}) Stop → Type 0
RemovesOr entries sp ds d old new (Ok done) = Removes entries sp ds old → Removes entries sp (ds ++ d ∷ []) new
RemovesOr entries sp ds d old new (Err stops.Memory) = Unit {0}
RemovesOr entries sp ds d old new (Err (stops.Refused refusal)) = Removes entries sp ds old → (refusal ≡ refusals.BadRequest) × (all_go entries sp (ds ++ d ∷ []) ≡ false)

abbrev pub RemovesAllOr : ℕ → Space → List Fields → Result Removals Stop → Type 0
RemovesAllOr entries sp ds (Ok r) = Removes entries sp ds r
RemovesAllOr entries sp ds (Err stops.Memory) = Unit {0}
RemovesAllOr entries sp ds (Err (stops.Refused refusal)) = (refusal ≡ refusals.BadRequest) × (all_go entries sp ds ≡ false)
