-- The finds of a download: a copied read concern prints the same.
use Rattle.std.proofs.Common.{◌≡◌, ◌++◌, negsuc, List, Option, Some, None, ap, ◌∙◌}
use Rattle.mg_bson.specs.Tree.{Fields, Tree}
use Rattle.mg_link.specs.Namespace.{Space}
use Rattle.mg_link.specs.declared.concern.ReadConcern.{ReadConcern}
use Rattle.mg_options.specs.Copies.{SameIn, level_of}
use Rattle.mg_options.specs.Fields.{Line, Shown, ◌⟼◌⨾◌, nothing}
use Rattle.mg_options.specs.Printing.{flag}
use Rattle.mg_options.specs.Records.{find_lines}
use Rattle.mg_options.specs.Shown.{selection}
use Rattle.mg_options.specs.declared.find.FindOptions.{FindOptions}
use Rattle.mg_options.proofs.Streams.{same_read_concern}
use Rattle.mg_ops.specs.Bodies.{awaits_data, find_body, find_size, is_single, is_tailable, text, whole}
use Rattle.mg_ops.specs.Pieces.{only_true}
use Rattle.mg_ops.specs.Sessions.{end_of}
use Rattle.mg_gridfs.specs.Buckets.{ClientBucket}
use Rattle.mg_chunks.specs.Filters.{of_file}
use Rattle.mg_gridfs.specs.Commands.{SameReading, by_id, found_lines, in_order, listed_lines, reading_options}

-- the lines of a find, by how what is read is shown
abbrev with_concern : Space → Fields → FindOptions → Shown → List Line
with_concern space filter o reads =
    ("find" ⟼ text space.coll
    ⨾ "singleBatch" ⟼ flag (only_true (is_single o.limit))
    ⨾ "tailable" ⟼ flag (only_true (is_tailable o.cursor_type))
    ⨾ "awaitData" ⟼ flag (only_true (awaits_data o.cursor_type))
    ⨾ nothing)
    ++ (find_lines (record o { batch_size = find_size o })
    ++ ("filter" ⟼ whole filter ⨾ end_of (text space.db) None ("readConcern" ⟼ reads ⨾ "$readPreference" ⟼ selection o.selection_criteria ⨾ nothing)))

pub reads_same : (space : Space) (filter : Fields) (o : FindOptions) (reads : Option ReadConcern) → SameIn level_of o.read_concern reads → find_body space filter (record o { read_concern = reads }) None ≡ find_body space filter o None
reads_same space filter o reads same = ap (with_concern space filter o) (same_read_concern o.read_concern reads same)

pub found_as : (b : ClientBucket) (id : Tree) (space : Space) (filter : Fields) (o p : FindOptions) → space ≡ b.files → filter ≡ by_id id → SameReading (reading_options b) o → p ≡ record o { limit = Some (negsuc 0) } → find_body space filter p None ≡ found_lines b id
found_as b id space filter o p at is same limited =
    ap (λ (s : Space). find_body s filter p None) at
    ∙ ap (λ (d : Fields). find_body b.files d p None) is
    ∙ ap (λ (x : FindOptions). find_body b.files (by_id id) x None) (limited ∙ ap (λ (x : FindOptions). record x { limit = Some (negsuc 0) }) same.rest)
    ∙ reads_same b.files (by_id id) (record (reading_options b) { limit = Some (negsuc 0) }) o.read_concern same.reads_so

pub listed_as : (b : ClientBucket) (id : Tree) (space : Space) (filter order : Fields) (o p : FindOptions) → space ≡ b.chunks → filter ≡ of_file id → order ≡ in_order → SameReading (reading_options b) o → p ≡ record o { sort = Some order } → find_body space filter p None ≡ listed_lines b id
listed_as b id space filter order o p at is ordered same sorted =
    ap (λ (s : Space). find_body s filter p None) at
    ∙ ap (λ (d : Fields). find_body b.chunks d p None) is
    ∙ ap (λ (x : FindOptions). find_body b.chunks (of_file id) x None) (sorted ∙ ap (λ (d : Fields). record o { sort = Some d }) ordered ∙ ap (λ (x : FindOptions). record x { sort = Some in_order }) same.rest)
    ∙ reads_same b.chunks (of_file id) (record (reading_options b) { sort = Some in_order }) o.read_concern same.reads_so
