-- The second script, step by step.
use Rattle.std.proofs.Common.{◌≡◌, ℕ, pos, false, List, [], ◌∷◌, Some, None, refl, sym, ap, ap₂, ◌∙◌, subst, inl, inr, codes, arith}
use Rattle.std.specs.Fmt.{digits}
use Rattle.mg_bson.specs.Find.{get}
use Rattle.mg_bson.specs.Raw.{fields}
use Rattle.mg_bson.specs.Tree.{Tree, Fields}
use Rattle.mg_bson.specs.Bytes.{le32, le64}
use Rattle.mg_server.specs.Filter.{is_same}
use Rattle.mg_server.specs.State.{State, Watch, nothing, documents_at, events_between, updates, deletes, drops, invalidates, query, watching}
use Rattle.mg_server.specs.Commands as commands
use Rattle.mg_server.specs.Commands.{Asked, Told, asked, failures_at}
use Rattle.mg_server.specs.Prompt.{AnswersAtOnce, EndsByInvalidate, MeetsConcern}
use Rattle.mg_server.specs.Query as queries
use Rattle.mg_link.specs.Reply.{verdict_of}
use Rattle.mg_server.specs.Step.{Made, May, next, effect, grown}
use Rattle.mg_server.specs.History.{Step, step_after, state_after, told_at, IsLegalFrom}
use Rattle.mg_server.specs.Example.{app_c, watch, id_0, id_1, x_1, x_2}
use Rattle.mg_server.specs.Worked.{id_2, x_3, x_7, inserts_three, opens_watch, finds_all, updates_first, finds_more, deletes_second, drops_all, watches_more, t_4, t_5, t_6, t_7, event_of, entry_of, wrote_three, opened_watch, found_two, updated_one, found_last, deleted_one, dropped, gave_four, adds, three_inserts, two_drops, IsStepOf, IsWorked}
use Rattle.mg_server.proofs.Prompts.{AreAtOnce, IsAtOnce, asked_of, asked_so, at_once_so, each_at_once, nonempty, nonzero, told_of, told_so, watch_or_query}

-- the state behind a step, by what its command and reply are read as
abbrev behind : State → Fields → Fields → Made → State
behind s command reply made = next s (asked_of command) (told_of command reply) made

abbrev state_1 : State
state_1 = behind nothing inserts_three wrote_three (adds three_inserts 3)

abbrev state_2 : State
state_2 = behind state_1 opens_watch opened_watch (adds [] 3)

abbrev state_3 : State
state_3 = behind state_2 finds_all found_two (adds [] 3)

abbrev state_4 : State
state_4 = behind state_3 updates_first updated_one (adds (entry_of t_4 4 updates ∷ []) 4)

abbrev state_5 : State
state_5 = behind state_4 finds_more found_last (adds [] 4)

abbrev state_6 : State
state_6 = behind state_5 deletes_second deleted_one (adds (entry_of t_5 5 deletes ∷ []) 5)

abbrev state_7 : State
state_7 = behind state_6 drops_all dropped (adds two_drops 7)

abbrev state_8 : State
state_8 = behind state_7 watches_more gave_four (adds [] 7)

-- a document with another id
differs : (id other o : Tree) → Some other ≡ Some o → is_same id other ≡ false → is_same id o ≡ false
differs id other o e h = let same : other ≡ o = cc in subst (λ (t : Tree). is_same id t ≡ false) same h

-- ---- the states

left_3 : state_3.cursors (pos 2) ≡ Some (query app_c (x_3 ∷ []))
unfolding commands.insert_of commands.watch_of commands.find_of commands.update_of commands.more_of commands.delete_of commands.drop_of commands.space_at commands.batch_of commands.inserted_by commands.updated_by commands.deleted_by verdict_of effect grown le32 le64 digits queries.result
left_3 = refl

updated_4 : documents_at state_4 app_c ≡ Some (x_7 ∷ x_2 ∷ x_3 ∷ [])
unfolding commands.insert_of commands.watch_of commands.find_of commands.update_of commands.more_of commands.delete_of commands.drop_of commands.space_at commands.batch_of commands.inserted_by commands.updated_by commands.deleted_by verdict_of effect grown le32 le64 digits queries.result
updated_4 = refl

ended_5 : state_5.cursors (pos 2) ≡ None
unfolding commands.insert_of commands.watch_of commands.find_of commands.update_of commands.more_of commands.delete_of commands.drop_of commands.space_at commands.batch_of commands.inserted_by commands.updated_by commands.deleted_by verdict_of effect grown le32 le64 digits queries.result
ended_5 = refl

deleted_6 : documents_at state_6 app_c ≡ Some (x_7 ∷ x_3 ∷ [])
unfolding commands.insert_of commands.watch_of commands.find_of commands.update_of commands.more_of commands.delete_of commands.drop_of commands.space_at commands.batch_of commands.inserted_by commands.updated_by commands.deleted_by verdict_of effect grown le32 le64 digits queries.result
deleted_6 = refl

gone_7 : documents_at state_7 app_c ≡ None
unfolding commands.insert_of commands.watch_of commands.find_of commands.update_of commands.more_of commands.delete_of commands.drop_of commands.space_at commands.batch_of commands.inserted_by commands.updated_by commands.deleted_by verdict_of effect grown le32 le64 digits queries.result
gone_7 = refl

stood_7 : state_7.cursors (pos 1) ≡ Some (watching watch 3)
unfolding commands.insert_of commands.watch_of commands.find_of commands.update_of commands.more_of commands.delete_of commands.drop_of commands.space_at commands.batch_of commands.inserted_by commands.updated_by commands.deleted_by verdict_of effect grown le32 le64 digits queries.result
stood_7 = refl

view_8 : events_between watch state_8.changes 3 7 ≡ event_of t_4 ∷ event_of t_5 ∷ event_of t_6 ∷ event_of t_7 ∷ []
unfolding commands.insert_of commands.watch_of commands.find_of commands.update_of commands.more_of commands.delete_of commands.drop_of commands.space_at commands.batch_of commands.inserted_by commands.updated_by commands.deleted_by verdict_of effect grown le32 le64 digits queries.result
view_8 = refl

ended_8 : state_8.cursors (pos 1) ≡ None
unfolding commands.insert_of commands.watch_of commands.find_of commands.update_of commands.more_of commands.delete_of commands.drop_of commands.space_at commands.batch_of commands.inserted_by commands.updated_by commands.deleted_by verdict_of effect grown le32 le64 digits queries.result
ended_8 = refl

-- ---- each step is legal

may_1 : May nothing (asked_of inserts_three) (told_of inserts_three wrote_three) (adds three_inserts 3)
unfolding commands.insert_of commands.watch_of commands.find_of commands.update_of commands.more_of commands.delete_of commands.drop_of commands.space_at commands.batch_of commands.inserted_by commands.updated_by commands.deleted_by verdict_of effect grown le32 le64 digits queries.result
may_1 = record {
  grows = record { later = omega arith; times = (omega arith, omega arith, (omega arith, omega arith, (omega arith, omega arith, tt))); names = (refl, omega arith, (refl, omega arith, (refl, omega arith, tt))) };
  tells = record {
    count = refl;
    ids = ((id_0, refl, tt), ((id_1, refl, (λ o e. differs id_1 id_0 o e refl, tt)), ((id_2, refl, (λ o e. differs id_2 id_0 o e refl, (λ o e. differs id_2 id_1 o e refl, tt))), tt)));
    entries = (record { at = refl; change_is = refl; token_is = refl }, (record { at = refl; change_is = refl; token_is = refl }, (record { at = refl; change_is = refl; token_is = refl }, tt)));
  };
}

may_2 : May state_1 (asked_of opens_watch) (told_of opens_watch opened_watch) (adds [] 3)
unfolding commands.insert_of commands.watch_of commands.find_of commands.update_of commands.more_of commands.delete_of commands.drop_of commands.space_at commands.batch_of commands.inserted_by commands.updated_by commands.deleted_by verdict_of effect grown le32 le64 digits queries.result
may_2 = record {
  grows = record { later = omega arith; times = tt; names = tt };
  tells = record {
    no_entry = refl;
    from = 3;
    begins = refl;
    batch = record { upto = 3; forward = omega arith; within = omega arith; these = refl; named = refl; ends = tt };
    fresh = λ ne. refl;
    time_is = refl;
  };
}

may_3 : May state_2 (asked_of finds_all) (told_of finds_all found_two) (adds [] 3)
unfolding commands.insert_of commands.watch_of commands.find_of commands.update_of commands.more_of commands.delete_of commands.drop_of commands.space_at commands.batch_of commands.inserted_by commands.updated_by commands.deleted_by verdict_of effect grown le32 le64 digits queries.result
may_3 = record {
  grows = record { later = omega arith; times = tt; names = tt };
  tells = record { no_entry = refl; left = x_3 ∷ []; these = refl; fresh = λ ne. refl; ends = λ e. cc };
}

may_4 : May state_3 (asked_of updates_first) (told_of updates_first updated_one) (adds (entry_of t_4 4 updates ∷ []) 4)
unfolding commands.insert_of commands.watch_of commands.find_of commands.update_of commands.more_of commands.delete_of commands.drop_of commands.space_at commands.batch_of commands.inserted_by commands.updated_by commands.deleted_by verdict_of effect grown le32 le64 digits queries.result
may_4 = record {
  grows = record { later = omega arith; times = (omega arith, omega arith, tt); names = (refl, omega arith, tt) };
  tells = record { count = refl; changed_is = refl; entries = (record { at = refl; change_is = refl; token_is = refl }, tt) };
}

may_5 : May state_4 (asked_of finds_more) (told_of finds_more found_last) (adds [] 4)
unfolding commands.insert_of commands.watch_of commands.find_of commands.update_of commands.more_of commands.delete_of commands.drop_of commands.space_at commands.batch_of commands.inserted_by commands.updated_by commands.deleted_by verdict_of effect grown le32 le64 digits queries.result
may_5 = record {
  grows = record { later = omega arith; times = tt; names = tt };
  tells = inr (record { no_entry = refl; space = app_c; left = []; stood = refl; same = inr (refl, refl) });
}

may_6 : May state_5 (asked_of deletes_second) (told_of deletes_second deleted_one) (adds (entry_of t_5 5 deletes ∷ []) 5)
unfolding commands.insert_of commands.watch_of commands.find_of commands.update_of commands.more_of commands.delete_of commands.drop_of commands.space_at commands.batch_of commands.inserted_by commands.updated_by commands.deleted_by verdict_of effect grown le32 le64 digits queries.result
may_6 = record {
  grows = record { later = omega arith; times = (omega arith, omega arith, tt); names = (refl, omega arith, tt) };
  tells = record { count = refl; entries = (record { at = refl; change_is = refl; token_is = refl }, tt) };
}

may_7 : May state_6 (asked_of drops_all) (told_of drops_all dropped) (adds two_drops 7)
unfolding commands.insert_of commands.watch_of commands.find_of commands.update_of commands.more_of commands.delete_of commands.drop_of commands.space_at commands.batch_of commands.inserted_by commands.updated_by commands.deleted_by verdict_of effect grown le32 le64 digits queries.result
may_7 = record {
  grows = record { later = omega arith; times = (omega arith, omega arith, (omega arith, omega arith, tt)); names = (refl, omega arith, (refl, omega arith, tt)) };
  tells = inl (record {
    collection = record { space = app_c; documents = x_7 ∷ x_3 ∷ []; indexes = [] };
    there = refl;
    dropped = entry_of t_6 6 drops;
    ended = entry_of t_7 7 invalidates;
    entries = refl;
    drop_is = record { at = refl; change_is = refl; token_is = refl };
    end_is = record { at = refl; change_is = refl; token_is = refl };
  });
}

may_8 : May state_7 (asked_of watches_more) (told_of watches_more gave_four) (adds [] 7)
unfolding commands.insert_of commands.watch_of commands.find_of commands.update_of commands.more_of commands.delete_of commands.drop_of commands.space_at commands.batch_of commands.inserted_by commands.updated_by commands.deleted_by verdict_of effect grown le32 le64 digits queries.result
may_8 = record {
  grows = record { later = omega arith; times = tt; names = tt };
  tells = inl (record {
    no_entry = refl;
    watch = watch;
    at = 3;
    stood = refl;
    batch = record { upto = 7; forward = omega arith; within = omega arith; these = refl; named = refl; ends = (refl, (refl, (refl, λ e. refl))) };
    same = inr refl;
  });
}

-- ---- nothing is held back

third_left : (x y z : Fields) (left : List Fields) → Some (x ∷ y ∷ z ∷ []) ≡ Some (x ∷ y ∷ left) → left ≡ [] → ⊥
third_left x y z left is none = cc

-- the watch ends with the event of its invalidate entry
ended_there : EndsByInvalidate state_8 watch 3 (pos 0) (Some t_7)
unfolding commands.insert_of commands.watch_of commands.find_of commands.update_of commands.more_of commands.delete_of commands.drop_of commands.space_at commands.batch_of commands.inserted_by commands.updated_by commands.deleted_by verdict_of effect grown le32 le64 digits queries.result
ended_there = λ ended. (7, refl, entry_of t_7 7 invalidates, (3, omega arith, refl), refl)

ended_so : (w : Watch) (from : ℕ) → Some (watching watch 3) ≡ Some (watching w from) → EndsByInvalidate state_8 w from (pos 0) (Some t_7)
ended_so w from is =
    let same : watch ≡ w = cc in
    let here : 3 ≡ from = cc in
    subst (λ (v : Watch). EndsByInvalidate state_8 v from (pos 0) (Some t_7)) same (subst (λ (n : ℕ). EndsByInvalidate state_8 watch n (pos 0) (Some t_7)) here ended_there)

at_once_1 : AnswersAtOnce nothing state_1 (asked_of inserts_three) (told_of inserts_three wrote_three)
unfolding commands.insert_of commands.watch_of commands.find_of commands.update_of commands.more_of commands.delete_of commands.drop_of commands.space_at commands.batch_of commands.inserted_by commands.updated_by commands.deleted_by verdict_of effect grown le32 le64 digits queries.result
at_once_1 = λ f has. let none = has.1 in absurd (omega arith)

at_once_2 : AnswersAtOnce state_1 state_2 (asked_of opens_watch) (told_of opens_watch opened_watch)
unfolding commands.insert_of commands.watch_of commands.find_of commands.update_of commands.more_of commands.delete_of commands.drop_of commands.space_at commands.batch_of commands.inserted_by commands.updated_by commands.deleted_by verdict_of effect grown le32 le64 digits queries.result
at_once_2 = λ from at ended. absurd (nonzero 0 ended)

at_once_3 : AnswersAtOnce state_2 state_3 (asked_of finds_all) (told_of finds_all found_two)
unfolding commands.insert_of commands.watch_of commands.find_of commands.update_of commands.more_of commands.delete_of commands.drop_of commands.space_at commands.batch_of commands.inserted_by commands.updated_by commands.deleted_by verdict_of effect grown le32 le64 digits queries.result
at_once_3 = λ left is. record {
  some = λ size none. absurd (nonempty _ _ none);
  ends = λ none. absurd (third_left x_1 x_2 x_3 left is none);
}

at_once_4 : AnswersAtOnce state_3 state_4 (asked_of updates_first) (told_of updates_first updated_one)
unfolding commands.insert_of commands.watch_of commands.find_of commands.update_of commands.more_of commands.delete_of commands.drop_of commands.space_at commands.batch_of commands.inserted_by commands.updated_by commands.deleted_by verdict_of effect grown le32 le64 digits queries.result
at_once_4 = refl

at_once_5 : AnswersAtOnce state_4 state_5 (asked_of finds_more) (told_of finds_more found_last)
unfolding commands.insert_of commands.watch_of commands.find_of commands.update_of commands.more_of commands.delete_of commands.drop_of commands.space_at commands.batch_of commands.inserted_by commands.updated_by commands.deleted_by verdict_of effect grown le32 le64 digits queries.result
at_once_5 = (
  λ w from stood. absurd (watch_or_query w from app_c (x_3 ∷ []) (sym stood)),
  λ of left stood. record {
    some = λ size none. absurd (nonempty _ _ none);
    ends = λ none. refl;
  },
)

at_once_6 : AnswersAtOnce state_5 state_6 (asked_of deletes_second) (told_of deletes_second deleted_one)
unfolding commands.insert_of commands.watch_of commands.find_of commands.update_of commands.more_of commands.delete_of commands.drop_of commands.space_at commands.batch_of commands.inserted_by commands.updated_by commands.deleted_by verdict_of effect grown le32 le64 digits queries.result
at_once_6 = refl

at_once_7 : AnswersAtOnce state_6 state_7 (asked_of drops_all) (told_of drops_all dropped)
unfolding commands.insert_of commands.watch_of commands.find_of commands.update_of commands.more_of commands.delete_of commands.drop_of commands.space_at commands.batch_of commands.inserted_by commands.updated_by commands.deleted_by verdict_of effect grown le32 le64 digits queries.result
at_once_7 = tt

at_once_8 : AnswersAtOnce state_7 state_8 (asked_of watches_more) (told_of watches_more gave_four)
unfolding commands.insert_of commands.watch_of commands.find_of commands.update_of commands.more_of commands.delete_of commands.drop_of commands.space_at commands.batch_of commands.inserted_by commands.updated_by commands.deleted_by verdict_of effect grown le32 le64 digits queries.result
at_once_8 = (λ w from stood. (λ none. absurd (nonempty _ _ none), ended_so w from stood), λ of left stood. absurd (watch_or_query watch 3 of _ stood))

met_1 : (bytes : List ℕ) → fields bytes ≡ wrote_three → MeetsConcern (asked_of inserts_three) bytes
unfolding commands.insert_of commands.space_at
met_1 bytes is = ap (get (codes "writeConcernError")) is

met_2 : (bytes : List ℕ) → fields bytes ≡ opened_watch → MeetsConcern (asked_of opens_watch) bytes
unfolding commands.watch_of commands.space_at
met_2 bytes is = tt

met_3 : (bytes : List ℕ) → fields bytes ≡ found_two → MeetsConcern (asked_of finds_all) bytes
unfolding commands.find_of commands.space_at
met_3 bytes is = tt

met_4 : (bytes : List ℕ) → fields bytes ≡ updated_one → MeetsConcern (asked_of updates_first) bytes
unfolding commands.update_of commands.space_at
met_4 bytes is = ap (get (codes "writeConcernError")) is

met_5 : (bytes : List ℕ) → fields bytes ≡ found_last → MeetsConcern (asked_of finds_more) bytes
unfolding commands.more_of commands.space_at
met_5 bytes is = tt

met_6 : (bytes : List ℕ) → fields bytes ≡ deleted_one → MeetsConcern (asked_of deletes_second) bytes
unfolding commands.delete_of commands.space_at
met_6 bytes is = ap (get (codes "writeConcernError")) is

met_7 : (bytes : List ℕ) → fields bytes ≡ dropped → MeetsConcern (asked_of drops_all) bytes
unfolding commands.drop_of commands.space_at
met_7 bytes is = (ap (get (codes "writeConcernError")) is, ap (λ (fs : Fields). failures_at (get (codes "writeErrors") fs)) is)

met_8 : (bytes : List ℕ) → fields bytes ≡ gave_four → MeetsConcern (asked_of watches_more) bytes
unfolding commands.more_of commands.space_at
met_8 bytes is = tt

-- ---- the history

module _ {command reply : Fields} {made : Made} {step : Step} (is : IsStepOf command reply made step) where
  asks : asked step.command ≡ asked_of command
  asks = asked_so step command is.command_is

  tells : told_at step ≡ told_of command reply
  tells = told_so step command reply is.command_is is.reply_is

  behind_so : {s t : State} → s ≡ t → step_after s step ≡ behind t command reply made
  behind_so {s} {t} e =
      ap (λ (u : State). step_after u step) e ∙ ap (λ (a : Asked). next t a (told_at step) step.made) asks
      ∙ ap₂ (λ (r : Told) (m : Made). next t (asked_of command) r m) tells is.made_is

  may_so : {s t : State} → s ≡ t → May t (asked_of command) (told_of command reply) made → May s (asked step.command) (told_at step) step.made
  may_so {s} {t} e may =
      subst (λ (u : State). May u (asked step.command) (told_at step) step.made) (sym e)
      (subst (λ (a : Asked). May t a (told_at step) step.made) (sym asks)
      (subst (λ (r : Told). May t (asked_of command) r step.made) (sym tells) (subst (λ (m : Made). May t (asked_of command) (told_of command reply) m) (sym is.made_is) may)))

  prompt_so : {s t t' : State} → s ≡ t → step_after s step ≡ t' → AnswersAtOnce t t' (asked_of command) (told_of command reply) → ((bytes : List ℕ) → fields bytes ≡ reply → MeetsConcern (asked_of command) bytes) → IsAtOnce s step
  prompt_so before after at_once met = at_once_so step command reply is.command_is is.reply_is before after at_once met

pub second_script : (a b c d e f g h : Step) → IsStepOf inserts_three wrote_three (adds three_inserts 3) a → IsStepOf opens_watch opened_watch (adds [] 3) b → IsStepOf finds_all found_two (adds [] 3) c
    → IsStepOf updates_first updated_one (adds (entry_of t_4 4 updates ∷ []) 4) d → IsStepOf finds_more found_last (adds [] 4) e → IsStepOf deletes_second deleted_one (adds (entry_of t_5 5 deletes ∷ []) 5) f
    → IsStepOf drops_all dropped (adds two_drops 7) g → IsStepOf watches_more gave_four (adds [] 7) h → IsWorked (a ∷ b ∷ c ∷ d ∷ e ∷ f ∷ g ∷ h ∷ [])
unfolding state_after IsLegalFrom
second_script a b c d e f g h ia ib ic id ie if_ ig ih =
    let one : step_after nothing a ≡ state_1 = behind_so ia refl in
    let two : step_after (step_after nothing a) b ≡ state_2 = behind_so ib one in
    let three : step_after (step_after (step_after nothing a) b) c ≡ state_3 = behind_so ic two in
    let four : step_after (step_after (step_after (step_after nothing a) b) c) d ≡ state_4 = behind_so id three in
    let five : step_after (step_after (step_after (step_after (step_after nothing a) b) c) d) e ≡ state_5 = behind_so ie four in
    let six : step_after (step_after (step_after (step_after (step_after (step_after nothing a) b) c) d) e) f ≡ state_6 = behind_so if_ five in
    let seven : step_after (step_after (step_after (step_after (step_after (step_after (step_after nothing a) b) c) d) e) f) g ≡ state_7 = behind_so ig six in
    let eight : step_after (step_after (step_after (step_after (step_after (step_after (step_after (step_after nothing a) b) c) d) e) f) g) h ≡ state_8 = behind_so ih seven in
    let all : AreAtOnce nothing (a ∷ b ∷ c ∷ d ∷ e ∷ f ∷ g ∷ h ∷ []) = (
      prompt_so ia refl one at_once_1 met_1,
      (
        prompt_so ib one two at_once_2 met_2,
        (
          prompt_so ic two three at_once_3 met_3,
          (
            prompt_so id three four at_once_4 met_4,
            (prompt_so ie four five at_once_5 met_5, (prompt_so if_ five six at_once_6 met_6, (prompt_so ig six seven at_once_7 met_7, (prompt_so ih seven eight at_once_8 met_8, tt)))),
          ),
        ),
      ),
    ) in
    record {
      legal = (may_so ia refl may_1, (may_so ib one may_2, (may_so ic two may_3, (may_so id three may_4, (may_so ie four may_5, (may_so if_ five may_6, (may_so ig six may_7, (may_so ih seven may_8, tt))))))));
      find_left = ap (λ (s : State). s.cursors (pos 2)) three ∙ left_3;
      find_ended = ap (λ (s : State). s.cursors (pos 2)) five ∙ ended_5;
      updated = ap (λ (s : State). documents_at s app_c) four ∙ updated_4;
      deleted = ap (λ (s : State). documents_at s app_c) six ∙ deleted_6;
      gone = ap (λ (s : State). documents_at s app_c) seven ∙ gone_7;
      watch_stood = ap (λ (s : State). s.cursors (pos 1)) seven ∙ stood_7;
      watch_ended = ap (λ (s : State). s.cursors (pos 1)) eight ∙ ended_8;
      view_is = ap (λ (s : State). events_between watch s.changes 3 7) eight ∙ view_8;
      prompt = λ position step own at. each_at_once nothing (a ∷ b ∷ c ∷ d ∷ e ∷ f ∷ g ∷ h ∷ []) all position step at;
    }
