use Rattle.std.proofs.Common.{refl, sym, ap, ◌∙◌, subst, inl, inr}
use Rattle.std.specs.Prelude.{option_and_then}
use Rattle.std.proofs.lemmas.Result.{err_from_is_err_and}
use Rattle.mg_bson.specs.Walks.{front_of}
use Rattle.mg_cursor.specs.View.{behind_of}
use Rattle.mg_change.specs.ClientStreams.{ClientStream, id_in}
use Rattle.mg_change.specs.StreamCalls.{AnswersEvent}
use Rattle.mg_change.specs.StreamView.{changes_of}
use Rattle.mg_change.proofs.Parts.{copy_given, has_one, owns_still}
use Rattle.mg_change.proofs.changes.Changes.copied.Goals as goal

pub pass_over-requires-clause-next : goal.pass_over-requires-clause-next
pass_over-requires-clause-next c = c.requires.next

pub pass_over-requires-clause-lacks : goal.pass_over-requires-clause-lacks
pass_over-requires-clause-lacks c = sym c.next_has_token.ensures ∙ c.if-not-next_has_token.true

pub pass_over-requires-clause-placed : goal.pass_over-requires-clause-placed
pass_over-requires-clause-placed c = c.requires.placed

pub give-requires-clause-has : goal.give-requires-clause-has
give-requires-clause-has c = sym c.next_has_token.ensures ∙ c.if-not-next_has_token.false

pub give-requires-clause-rests : goal.give-requires-clause-rests
give-requires-clause-rests c = c.requires.rests

pub give-requires-clause-follows : goal.give-requires-clause-follows
give-requires-clause-follows c = c.requires.follows

pub front_copy-requires : goal.front_copy-requires
front_copy-requires c = c.requires.next

-- ---- it has no token

pub returns-then-not-next_has_token-clause-err : goal.returns-then-not-next_has_token-clause-err
returns-then-not-next_has_token-clause-err c = inl c.pass_over.ensures.lacks

pub returns-then-not-next_has_token-clause-owned : goal.returns-then-not-next_has_token-clause-owned
returns-then-not-next_has_token-clause-owned c = owns_still c.args.self.now.token c.pass_over.new.self.token c.pass_over.ensures.place

-- ---- memory runs out

pub returns-in_err-copy-clause-err : goal.returns-in_err-copy-clause-err
returns-in_err-copy-clause-err c =
    let p = err_from_is_err_and c.from_residual.result c.from_residual.ensures.1 in
    rw (p.1, p.2) (inr (record { next_has = has_one (behind_of c.args.self.now.buffer) (sym c.next_has_token.ensures ∙ c.if-not-next_has_token.false); same = refl; error = c.in_err-copy.ensures.err }))

pub returns-in_err-copy-clause-placed : goal.returns-in_err-copy-clause-placed
returns-in_err-copy-clause-placed c = c.requires.placed

pub returns-in_err-copy-clause-owned : goal.returns-in_err-copy-clause-owned
returns-in_err-copy-clause-owned c = λ own. own

pub returns-in_err-token-clause-err : goal.returns-in_err-token-clause-err
returns-in_err-token-clause-err c =
    let p = err_from_is_err_and c.from_residual-in_err-token.result c.from_residual-in_err-token.ensures.1 in
    rw (p.1, p.2) (inr (record { next_has = has_one (behind_of c.args.self.now.buffer) (sym c.next_has_token.ensures ∙ c.if-not-next_has_token.false); same = refl; error = c.in_err-token.ensures.err }))

pub returns-in_err-token-clause-placed : goal.returns-in_err-token-clause-placed
returns-in_err-token-clause-placed c = c.requires.placed

pub returns-in_err-token-clause-owned : goal.returns-in_err-token-clause-owned
returns-in_err-token-clause-owned c = λ own. own

-- ---- it is given, with its token

pub own-requires-clause-is : goal.own-requires-clause-is
own-requires-clause-is c = λ lent. c.in_ok-token.ensures.ok ∙ sym (ap (option_and_then id_in) c.give.ensures.event)

pub own-requires-clause-placed : goal.own-requires-clause-placed
own-requires-clause-placed c = c.give.ensures.placed

pub returns-clause-ok : goal.returns-clause-ok
returns-clause-ok c =
    let gave = c.give.ensures.gives in
    copy_given (changes_of c.args.self.now) (changes_of c.own.new.self) (front_of (behind_of c.args.self.now.buffer)) gave.0 c.in_ok-copy.copy gave.2 c.in_ok-copy.ensures.ok
    (subst (λ (s : ClientStream). AnswersEvent (changes_of c.args.self.now) s gave.0) (sym c.own.ensures.same) gave.1)

pub returns-clause-owned : goal.returns-clause-owned
returns-clause-owned c = λ own. c.own.ensures.owned
