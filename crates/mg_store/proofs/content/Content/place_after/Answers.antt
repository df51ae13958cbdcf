use Rattle.std.proofs.Common.{◌≡◌, ℕ, List, length, true, false, Ok, Err, sym, ap, ap₂, ◌∙◌, arith}
use Rattle.std.specs.Prelude.{◌&&◌, if◌then◌else◌}
use Rattle.std.proofs.lemmas.Bool.{and_left, and_right}
use Rattle.mg_bson.specs.RawView.{value}
use Rattle.mg_server.specs.Rules.{ended_before, no_such_token, place_after, token_place}
use Rattle.mg_server.specs.State.{Entry}
use Rattle.mg_store.specs.Holding.{entries_from}
use Rattle.mg_store.specs.declared.change.ChangeEntry.{ChangeEntry}
use Rattle.mg_store.proofs.Entries.{length-entries}
use Rattle.mg_store.proofs.content.Content.place_after.Goals as goal
use Rattle.mg_store.proofs.content.Content.place_after.Goals.{else-resumes-via-then-resumes+in_ok-ended_before+else-branch, else-resumes-via-else-resumes}

pub returns-in_default : goal.returns-in_default
returns-in_default c s w same is =
    let len : length s.changes ≡ c.len.result = omega (arith, ap length same ∙ length-entries 0 c.args.self.now.changes.items, c.len.ensures, c.args.self.now.changes.ok.0) in
    ap (λ (n : ℕ). place_after w s.changes c.args.resumes (token_place n (value c.args.token.now))) len ∙ ap (place_after w s.changes c.args.resumes) (sym c.in_ok-place.ensures ∙ c.in_default.is)

pub returns-then-branch : goal.returns-then-branch
returns-then-branch c s w same is =
    let len : length s.changes ≡ c.len.result = omega (arith, ap length same ∙ length-entries 0 c.args.self.now.changes.items, c.len.ensures, c.args.self.now.changes.ok.0) in
    let ended : ended_before w s.changes c.in-Some.place ≡ true = ap (λ (es : List Entry). ended_before w es c.in-Some.place) same ∙ ap (λ (l : List ChangeEntry). ended_before w (entries_from 0 l) c.in-Some.place) (sym c.deref.ensures.value) ∙ sym (c.in_ok-ended_before.ensures w is) ∙ c.if-branch.true in
    ap (λ (n : ℕ). place_after w s.changes c.args.resumes (token_place n (value c.args.token.now))) len ∙ ap (place_after w s.changes c.args.resumes) (sym c.in_ok-place.ensures ∙ c.in-Some.is)
    ∙ ap₂ (λ a b. if a && b then Err no_such_token else Ok c.in-Some.place) c.if-resumes.true ended

pub returns : goal.returns
returns c s w same is =
    let len : length s.changes ≡ c.len.result = omega (arith, ap length same ∙ length-entries 0 c.args.self.now.changes.items, c.len.ensures, c.args.self.now.changes.ok.0) in
    let goes_on : (c.args.resumes && ended_before w s.changes c.in-Some.place) ≡ false =
    elim c.else-resumes.branch [
      | else-resumes-via-then-resumes+in_ok-ended_before+else-branch v ↦ and_right c.args.resumes (ended_before w s.changes c.in-Some.place)
          (ap (λ (es : List Entry). ended_before w es c.in-Some.place) same ∙ ap (λ (l : List ChangeEntry). ended_before w (entries_from 0 l) c.in-Some.place) (sym v.deref.ensures.value) ∙ sym (v.in_ok-ended_before.ensures w is) ∙ v.if-branch.false)
      | else-resumes-via-else-resumes v ↦ and_left c.args.resumes (ended_before w s.changes c.in-Some.place) v.if-resumes.false
    ] in
    ap (λ (n : ℕ). place_after w s.changes c.args.resumes (token_place n (value c.args.token.now))) len ∙ ap (place_after w s.changes c.args.resumes) (sym c.in_ok-place.ensures ∙ c.in-Some.is)
    ∙ ap (λ b. if b then Err no_such_token else Ok c.in-Some.place) goes_on
