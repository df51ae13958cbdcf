use Rattle.std.proofs.Common.{◌≡◌, ◌↔◌, IsTrue, Result, Ok, Err, sym, ◌∙◌, subst}
use Rattle.mg_bson.specs.Raw.{fields, items}
use Rattle.mg_bson.specs.Tree.{Items, no_items}
use Rattle.mg_link.specs.declared.error.Malformed.{Malformed}
use Rattle.mg_ops.proofs.Reading.{items_read}
use Rattle.mg_gridfs.proofs.check.has_none.Goals as goal

same_items : (r : Result Items Malformed) (ts us : Items) → r ≡ Ok ts → r ≡ Ok us → ts ≡ us
same_items r ts us there said = let e : ◌≡◌ {A = Result Items Malformed} (Ok ts) (Ok us) = sym there ∙ said in cc

no_fault : (r : Result Items Malformed) (m : Malformed) (us : Items) → r ≡ Err m → r ≡ Ok us → ⊥
no_fault r m us fault said = let e : ◌≡◌ {A = Result Items Malformed} (Err m) (Ok us) = sym fault ∙ said in cc

pub returns-in-Ok : goal.returns-in-Ok
returns-in-Ok c = λ said read.
    let same = same_items _ (items c.in-Ok.batch) said.batch c.in-Ok.ensures (items_read (fields c.args.reply.now) said read) in
    subst (λ (ts : Items). IsTrue c.is_empty.result ↔ (ts ≡ no_items)) same c.is_empty.ensures

pub returns-in-Err : goal.returns-in-Err
returns-in-Err c = λ said read. absurd (no_fault _ c.in-Err._fault said.batch c.in-Err.ensures (items_read (fields c.args.reply.now) said read))
