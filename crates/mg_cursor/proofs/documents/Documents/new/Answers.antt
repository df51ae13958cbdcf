use Rattle.std.proofs.Common.{List, ℕ, Option, None, ap, ◌∙◌}
use Rattle.mg_cursor.specs.Client.{ClientCursor, new_client}
use Rattle.mg_cursor.specs.View.{behind_of, current_of}
use Rattle.mg_cursor.proofs.documents.Documents.new.Goals as goal

pub returns : goal.returns
returns c =
    let buffer = c.new-2.result in
    let client = new_client c.args.specification in
    ap (λ (x : ClientCursor). record { cursor = x; current = current_of buffer; behind = behind_of buffer; empty = 0 }) c.new.ensures
    ∙ ap (λ (o : Option (List ℕ)). record { cursor = client; current = o; behind = behind_of buffer; empty = 0 }) c.new-2.ensures.current
    ∙ ap (λ (l : List (List ℕ)). record { cursor = client; current = None; behind = l; empty = 0 }) c.new-2.ensures.behind
