use Rattle.std.proofs.Common.{map, Ok, ap, ◌∙◌}
use Rattle.mg_bson.specs.Raw.{items}
use Rattle.mg_link.specs.Namespace.{space}
use Rattle.mg_query.specs.Asking.{documents_among, held, lent_space}
use Rattle.mg_query.specs.Indexing.{index_held}
use Rattle.mg_query.specs.Wanted.{lent_write}
use Rattle.mg_query.specs.Modifying.{lent_modification}
use Rattle.mg_store.proofs.Requesting.{insert_answers, create_answers, indexes_answer, drop_answers, update_answers, delete_answers}
use Rattle.mg_store.proofs.content.Content.answer_write.Goals as goal

pub returns-in_ok-namespace-in-Insert : goal.returns-in_ok-namespace-in-Insert
returns-in_ok-namespace-in-Insert c s given h command asks =
    insert_answers s given command (lent_space c.in-Insert.space) (space c.in_ok-namespace-in-Insert.field-0) (documents_among (items c.in-Insert.documents)) c.in-Insert.ordered c.answer_insert.result
    (asks ∙ ap (λ w. Ok (lent_write w)) c.in-Insert.is) c.in_ok-namespace-in-Insert.ensures (c.answer_insert.ensures s given h)

pub returns-in_ok-namespace-in-Create : goal.returns-in_ok-namespace-in-Create
returns-in_ok-namespace-in-Create c s given h command asks =
    create_answers s given command (lent_space c.in-Create.space) (space c.in_ok-namespace-in-Create.field-0) c.answer_create.result
    (asks ∙ ap (λ w. Ok (lent_write w)) c.in-Create.is) c.in_ok-namespace-in-Create.ensures (c.answer_create.ensures s given h)

pub returns-in_ok-namespace-in-CreateIndexes : goal.returns-in_ok-namespace-in-CreateIndexes
returns-in_ok-namespace-in-CreateIndexes c s given h command asks =
    indexes_answer s given command (lent_space c.in-CreateIndexes.space) (space c.in_ok-namespace-in-CreateIndexes.field-0) (map index_held c.in-CreateIndexes.indexes.items) c.answer_create_indexes.result
    (asks ∙ ap (λ w. Ok (lent_write w)) c.in-CreateIndexes.is) c.in_ok-namespace-in-CreateIndexes.ensures (c.answer_create_indexes.ensures s given h)

pub returns-in_ok-namespace-in-Drop : goal.returns-in_ok-namespace-in-Drop
returns-in_ok-namespace-in-Drop c s given h command asks =
    drop_answers s given command (lent_space c.in-Drop.space) (space c.in_ok-namespace-in-Drop.field-0) c.answer_drop.result
    (asks ∙ ap (λ w. Ok (lent_write w)) c.in-Drop.is) c.in_ok-namespace-in-Drop.ensures (c.answer_drop.ensures s given h)

pub returns-in_ok-ns-in-Update : goal.returns-in_ok-ns-in-Update
returns-in_ok-ns-in-Update c s given h command asks =
    update_answers s given command (lent_space c.in-Update.space) (space c.in_ok-ns-in-Update.ns) (map held c.in-Update.filter.items) (lent_modification c.in-Update.modification) c.in-Update.many c.answer_update.result
    (asks ∙ ap (λ w. Ok (lent_write w)) c.in-Update.is) c.in_ok-ns-in-Update.ensures (λ cs keys keeps. c.answer_update.ensures s given cs h keys keeps)

pub returns-in_ok-namespace-in-Delete : goal.returns-in_ok-namespace-in-Delete
returns-in_ok-namespace-in-Delete c s given h command asks =
    delete_answers s given command (lent_space c.in-Delete.space) (space c.in_ok-namespace-in-Delete.field-0) (map held c.in-Delete.filter.items) c.in-Delete.many c.answer_delete.result
    (asks ∙ ap (λ w. Ok (lent_write w)) c.in-Delete.is) c.in_ok-namespace-in-Delete.ensures (λ cs keys. c.answer_delete.ensures s given cs h keys)
