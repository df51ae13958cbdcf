use Rattle.std.proofs.Common.{◌≡◌, Option, refl, sym, inl, subst}
use Rattle.std.proofs.lemmas.Bool.{iff_false}
use Rattle.std.proofs.lemmas.Result.{IfErr-weaker, err_from_is_err_and, on_err_weaker, on_ok_weaker}
use Rattle.mg_link.specs.Exec.{Sending}
use Rattle.mg_link.specs.Session.{Session}
use Rattle.std.specs.Prelude.{option_copied}
use Rattle.mg_ops.specs.Failing.{FailsBy}
use Rattle.mg_cursor.specs.Client.{IsNew, MayAsk, asking_by, get_more, rests}
use Rattle.mg_cursor.specs.Polling.{CannotAsk}
use Rattle.mg_cursor.specs.View.{client_of}
use Rattle.mg_change.specs.ClientStreams.{ClientStream}
use Rattle.mg_change.specs.Steps.{not_now}
use Rattle.mg_change.proofs.Linking.{own_saved, placed_saved, saved_place}
use Rattle.mg_change.proofs.Parts.{built_so, owns_still, unbuilt_same}
use Rattle.mg_change.proofs.changes.Changes.prepare.Goals as goal

-- ---- none is to be sent

pub returns-then-not-is_to_ask-clause-ready : goal.returns-then-not-is_to_ask-clause-ready
returns-then-not-is_to_ask-clause-ready g c = not_now (λ quiet may. iff_false c.is_to_ask.ensures c.if-not-is_to_ask.true (quiet, may)) refl

pub returns-then-not-is_to_ask-clause-saved : goal.returns-then-not-is_to_ask-clause-saved
returns-then-not-is_to_ask-clause-saved g c = c.requires.sound.placed.saves_so

pub returns-then-not-is_to_ask-clause-placed : goal.returns-then-not-is_to_ask-clause-placed
returns-then-not-is_to_ask-clause-placed g c = c.requires.sound.placed

pub returns-then-not-is_to_ask-clause-owned : goal.returns-then-not-is_to_ask-clause-owned
returns-then-not-is_to_ask-clause-owned g c = λ own. own

-- ---- memory runs out before it is built

pub save_token-requires : goal.save_token-requires
save_token-requires g c = c.requires.sound.placed

pub returns-in_err-save_token-clause-fails : goal.returns-in_err-save_token-clause-fails
returns-in_err-save_token-clause-fails g c = let p = err_from_is_err_and c.from_residual.result c.from_residual.ensures.1 in rw (p.1, p.2) (inl c.in_err-save_token.ensures.err)

pub returns-in_err-save_token-clause-asks : goal.returns-in_err-save_token-clause-asks
returns-in_err-save_token-clause-asks g c = let p = err_from_is_err_and c.from_residual.result c.from_residual.ensures.1 in rw p.1 (c.is_to_ask.ensures.0 c.if-not-is_to_ask.false)

pub returns-in_err-save_token-clause-stays : goal.returns-in_err-save_token-clause-stays
returns-in_err-save_token-clause-stays g c = let p = err_from_is_err_and c.from_residual.result c.from_residual.ensures.1 in rw p.1 c.save_token.ensures.same

pub returns-in_err-save_token-clause-placed : goal.returns-in_err-save_token-clause-placed
returns-in_err-save_token-clause-placed g c = c.save_token.ensures.placed

pub returns-in_err-save_token-clause-owned : goal.returns-in_err-save_token-clause-owned
returns-in_err-save_token-clause-owned g c = owns_still c.args.self.now.token c.save_token.new.self.token c.in_err-save_token.ensures.place

-- ---- it is built, or cannot be

pub prepare-requires : goal.prepare-requires
prepare-requires g c = subst (λ (x : ClientStream). (x.cursor.doing ≡ rests) × MayAsk x.cursor) (sym c.save_token.ensures.same) (c.is_to_ask.ensures.0 c.if-not-is_to_ask.false)

pub returns-clause-ready : goal.returns-clause-ready
returns-clause-ready g c =
    on_ok_weaker c.prepare.result
    (λ h. built_so c.args.self.now c.save_token.new.self c.prepare.new.self (g.H.ClientSessionHandle.asked c.args.handle.now) c.save_token.ensures.same c.in_ok-save_token.ensures.saved (c.is_to_ask.ensures.0 c.if-not-is_to_ask.false)
    (subst (λ (x : Option Session). (sending : Sending) × IsNew (get_more (client_of c.save_token.new.self.batches) x) sending × (client_of c.prepare.new.self ≡ asking_by sending (client_of c.save_token.new.self.batches))) c.asked.ensures h))
    c.prepare.ensures.built

pub returns-clause-fails : goal.returns-clause-fails
returns-clause-fails g c =
    IfErr-weaker c.prepare.result (λ e. FailsBy (CannotAsk (client_of c.save_token.new.self.batches) (option_copied c.asked.result)) e) (λ e. FailsBy (CannotAsk (client_of c.args.self.now.batches) (g.H.ClientSessionHandle.asked c.args.handle.now)) e)
    (λ e h. subst (λ (x : ClientStream). FailsBy (CannotAsk x.cursor (g.H.ClientSessionHandle.asked c.args.handle.now)) e) c.save_token.ensures.same (subst (λ (x : Option Session). FailsBy (CannotAsk (client_of c.save_token.new.self.batches) x) e) c.asked.ensures h))
    c.prepare.ensures.err

pub returns-clause-asks : goal.returns-clause-asks
returns-clause-asks g c = on_err_weaker c.prepare.result (λ h. (c.is_to_ask.ensures.0 c.if-not-is_to_ask.false)) c.prepare.ensures.stays

pub returns-clause-stays : goal.returns-clause-stays
returns-clause-stays g c = on_err_weaker c.prepare.result (λ h. unbuilt_same c.args.self.now c.save_token.new.self c.prepare.new.self c.save_token.ensures.same c.in_ok-save_token.ensures.saved h) c.prepare.ensures.stays

pub returns-clause-saved : goal.returns-clause-saved
returns-clause-saved g c = on_ok_weaker c.prepare.result (λ h. (placed_saved (record c.save_token.new.self { batches = c.prepare.new.self }) c.in_ok-save_token.ensures.saved).saves_so) c.prepare.ensures.built

pub returns-clause-placed : goal.returns-clause-placed
returns-clause-placed g c = placed_saved (record c.save_token.new.self { batches = c.prepare.new.self }) c.in_ok-save_token.ensures.saved

pub returns-clause-owned : goal.returns-clause-owned
returns-clause-owned g c = λ own. own_saved c.save_token.new.self.token (saved_place c.save_token.new.self.token c.in_ok-save_token.ensures.saved)
