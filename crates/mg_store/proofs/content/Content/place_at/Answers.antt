use Rattle.std.proofs.Common.{◌≡◌, length, Ok, ap, ◌∙◌, arith}
use Rattle.mg_server.specs.Rules.{place_at}
use Rattle.mg_query.specs.Wanted.{lent_start}
use Rattle.mg_store.proofs.Entries.{length-entries}
use Rattle.mg_store.proofs.content.Content.place_at.Goals as goal

pub returns-in-Nowhere : goal.returns-in-Nowhere
returns-in-Nowhere c s w same is =
    let len : length s.changes ≡ c.len.result = omega (arith, ap length same ∙ length-entries 0 c.args.self.now.changes.items, c.len.ensures, c.args.self.now.changes.ok.0) in
    ap (λ x. place_at s w (lent_start x) c.args.resumes) c.in-Nowhere.is ∙ ap (λ n. Ok n) len
