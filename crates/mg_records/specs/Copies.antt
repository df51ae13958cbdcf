-- When a record of options has the same values as another, field by field.
use Rattle.std.specs.Prelude.{◌≡◌}
use Rattle.mg_bson.specs.View.{tree}
use Rattle.mg_link.specs.Concerns.{concerned}
use Rattle.mg_options.specs.Collations.{collation_lines}
use Rattle.mg_options.specs.Copies.{SameIn, itself, level_of}
use Rattle.mg_options.specs.Tables.{hint_value}
use Rattle.mg_records.specs.declared.count.Summary.{Summary}
use Rattle.mg_records.specs.declared.drop_index.DropIndexOptions.{DropIndexOptions}
use Rattle.mg_records.specs.declared.find_and_modify.FindOneAnd.{FindOneAnd}
use Rattle.mg_records.specs.declared.update.UpdateOf.{UpdateOf}

abbrev pub SameSummary : {M : Type 0} → Summary M → Summary M → Type 0
SameSummary o p =
    SameIn hint_value o.hint p.hint
    × (p.limit ≡ o.limit)
    × (p.max_time ≡ o.max_time)
    × (p.skip ≡ o.skip)
    × SameIn collation_lines o.collation p.collation
    × (p.selection_criteria ≡ o.selection_criteria)
    × SameIn level_of o.read_concern p.read_concern
    × SameIn tree o.comment p.comment

abbrev pub SameDropIndexOptions : DropIndexOptions → DropIndexOptions → Type 0
SameDropIndexOptions o p =
    (p.max_time ≡ o.max_time)
    × SameIn tree o.comment p.comment
    × SameIn concerned o.write_concern p.write_concern

abbrev pub SameFindOneAnd : {M : Type 0} → FindOneAnd M → FindOneAnd M → Type 0
SameFindOneAnd o p =
    SameIn (λ v. v.items) o.array_filters p.array_filters
    × (p.bypass_document_validation ≡ o.bypass_document_validation)
    × (p.max_time ≡ o.max_time)
    × SameIn itself o.projection p.projection
    × (p.return_document ≡ o.return_document)
    × SameIn itself o.sort p.sort
    × (p.upsert ≡ o.upsert)
    × SameIn concerned o.write_concern p.write_concern
    × SameIn collation_lines o.collation p.collation
    × SameIn hint_value o.hint p.hint
    × SameIn itself o.let_vars p.let_vars
    × SameIn tree o.comment p.comment

abbrev pub SameUpdateOf : {M : Type 0} → UpdateOf M → UpdateOf M → Type 0
SameUpdateOf o p =
    SameIn (λ v. v.items) o.array_filters p.array_filters
    × (p.bypass_document_validation ≡ o.bypass_document_validation)
    × (p.upsert ≡ o.upsert)
    × SameIn collation_lines o.collation p.collation
    × SameIn hint_value o.hint p.hint
    × SameIn concerned o.write_concern p.write_concern
    × SameIn itself o.let_vars p.let_vars
    × SameIn tree o.comment p.comment
    × SameIn itself o.sort p.sort
