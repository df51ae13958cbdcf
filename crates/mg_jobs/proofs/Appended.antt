-- What an insert that took effect did to the server.
use Rattle.std.proofs.Common.{◌≡◌, ℕ, ℤ, pos, suc, true, List, [], ◌∷◌, ◌++◌, length, Some, refl, sym, ap, ◌∙◌, subst, take}
use Rattle.mg_bson.specs.Tree.{Fields}
use Rattle.mg_server.specs.Commands.{Asked, asked, asks_insert, inserted, told, Told}
use Rattle.mg_server.specs.History.{Step, IsLegal, state_of, told_at}
use Rattle.mg_link.specs.Log.{Sight, reply, Call}
use Rattle.mg_link.specs.Namespace.{Space}
use Rattle.mg_server.specs.Standing.{SeenFits, Stands}
use Rattle.mg_server.specs.State.{State, nothing, documents_at}
use Rattle.mg_server.specs.Step.{Made, May, documents_of, effect, grown, next, written}
use Rattle.mg_server.proofs.Collections.{documents_here}
use Rattle.mg_server.proofs.Fronts.{legal_take}
use Rattle.mg_server.proofs.Owners.{legal_back, legal_parts, state_one}
use Rattle.mg_ops.specs.Appended.{InsertsAt}
use Rattle.mg_link.proofs.Places.{take_more}

written_all : (n : ℕ) (ds : List Fields) → written true [] n ds ≡ ds
written_all n [] = refl
written_all n (d ∷ ds) = ap (λ es. d ∷ es) (written_all (suc n) ds)

inserted_state : (s : State) (space : Space) (ds : List Fields) (count : ℤ) (made : Made) → documents_at (next s (asks_insert space ds true) (inserted count []) made) space ≡ Some (documents_of s space ++ ds)
unfolding effect grown
inserted_state s space ds count made =
    documents_here s space (documents_of s space ++ written true [] 0 ds) ∙ ap (λ es. Some (documents_of s space ++ es)) (written_all 0 ds)

inserted_count : (s : State) (space : Space) (ds : List Fields) (count : ℤ) (made : Made) → May s (asks_insert space ds true) (inserted count []) made → count ≡ pos (length ds)
inserted_count s space ds count made may = may.tells.count ∙ ap (λ es. pos (length es)) (written_all 0 ds)

fits_reply : (seen : Sight) (bytes given : List ℕ) → seen ≡ reply bytes → SeenFits seen given → bytes ≡ given
fits_reply seen bytes given saw fits = subst (λ (s : Sight). SeenFits s given) saw fits

-- A call that inserted documents appended them to those that stood there before its step, and told their number.
pub inserts_append : (calls : List Call) (history : List Step) (k : ℕ) (space : Space) (ds : List Fields) → IsLegal history → Stands calls history → (i : InsertsAt calls k space ds)
    → (p : ℕ) × (i.call.position ≡ Some p) × (i.count ≡ pos (length ds)) × (documents_at (state_of (take (suc p) history)) space ≡ Some (documents_of (state_of (take p history)) space ++ ds))
inserts_append calls history k space ds legal stands i =
    let placed = stands.placed k i.call i.bytes i.found i.saw in
    let p = placed.0 in
    let same = stands.same k i.call p i.found placed.1 in
    let step : Step = same.0 in
    let asks : asked step.command ≡ asks_insert space ds true = ap asked same.2 ∙ i.asks in
    let given : i.bytes ≡ step.reply = fits_reply i.call.seen i.bytes step.reply i.saw same.3 in
    let tells : told_at step ≡ inserted i.count [] = ap (λ a. told a step.reply) asks ∙ ap (told (asks_insert space ds true)) (sym given) ∙ i.tells in
    let cut : take (suc p) history ≡ take p history ++ step ∷ [] = take_more history p step same.1 in
    let before : State = state_of (take p history) in
    let may : May before (asked step.command) (told_at step) step.made =
    (legal_parts before step [] (legal_back nothing (take p history) (step ∷ []) (subst IsLegal cut (legal_take nothing (suc p) history legal)))).0 in
    let may' : May before (asks_insert space ds true) (inserted i.count []) step.made =
    subst (λ (t : Told). May before (asks_insert space ds true) t step.made) tells (subst (λ (a : Asked). May before a (told_at step) step.made) asks may) in
    let behind : state_of (take (suc p) history) ≡ next before (asks_insert space ds true) (inserted i.count []) step.made =
    ap state_of cut ∙ state_one (take p history) step ∙ ap (λ (a : Asked). next before a (told_at step) step.made) asks ∙ ap (λ (t : Told). next before (asks_insert space ds true) t step.made) tells in
    (p, placed.1, inserted_count before space ds i.count step.made may', ap (λ (s : State). documents_at s space) behind ∙ inserted_state before space ds i.count step.made)
