-- The first script, step by step.
use Rattle.std.proofs.Common.{◌≡◌, ℕ, pos, suc, Bool, true, false, List, [], ◌∷◌, Some, None, refl, ap, ap₂, ◌∙◌, take, codes, arith}
use Rattle.mg_bson.specs.Find.{get}
use Rattle.mg_bson.specs.Raw.{fields}
use Rattle.mg_bson.specs.Tree.{Fields}
use Rattle.std.specs.Fmt.{digits}
use Rattle.mg_bson.specs.Bytes.{le32, le64}
use Rattle.hex.specs.Hex.{encode_with}
use Rattle.mg_server.specs.State.{State, nothing, nowhere, documents_at, start_place, events_between, watching}
use Rattle.mg_server.specs.Commands as commands
use Rattle.mg_server.specs.Commands.{asked, told}
use Rattle.mg_server.specs.Prompt.{AnswersAtOnce, MeetsConcern}
use Rattle.mg_link.specs.Reply.{verdict_of}
use Rattle.mg_server.specs.Step.{next, effect, grown}
use Rattle.mg_server.specs.History.{state_of, state_after}
use Rattle.mg_server.specs.Kept.{Kept, made_of, made_by, given_after, given_by, state_behind, step_of, steps_from, steps_of}
use Rattle.mg_server.specs.Rules.{answer_of, watch_request, insert_request, more_request, kill_request, named_space, full_behind, inserting}
use Rattle.mg_server.specs.Example.{app_c, watch, x_1, x_2, opens, inserts_two, asks_more, kills, token_2, event_1, event_2, opened, inserted_two, gave_two, killed, IsStep, entry_1, entry_2, IsExample}
use Rattle.mg_server.proofs.Prompts.{AreAtOnce, IsAtOnce, asked_of, at_once_so, each_at_once, nonempty, nonzero, told_of, watch_or_query}

-- the state behind a step, by what its command and reply are read as
abbrev behind : State → ℕ → Bool → Fields → Fields → State
behind s given started command reply = next s (asked_of command) (told_of command reply) (made_by s started (answer_of s (pos (suc given)) command).entries (told_of command reply))

abbrev given_behind : ℕ → Fields → Fields → ℕ
given_behind given command reply = given_by given (told_of command reply)

behind_is : (s : State) (given : ℕ) (started : Bool) (command reply : Fields) (k : Kept) → IsStep command reply k → state_behind s given started k ≡ behind s given started command reply
unfolding asked told made_of
behind_is s given started command reply k is = ap₂ (λ (c r : Fields). behind s given started c r) is.command_is is.reply_is

given_is : (given : ℕ) (command reply : Fields) (k : Kept) → IsStep command reply k → given_after given k ≡ given_behind given command reply
unfolding asked told given_after
given_is given command reply k is = ap₂ (λ (c r : Fields). given_behind given c r) is.command_is is.reply_is

abbrev state_1 : State
state_1 = behind nothing 0 false opens opened

abbrev state_2 : State
state_2 = behind state_1 1 true inserts_two inserted_two

abbrev state_3 : State
state_3 = behind state_2 1 true asks_more gave_two

abbrev state_4 : State
state_4 = behind state_3 1 true kills killed

pub given_1 : given_behind 0 opens opened ≡ 1
unfolding commands.watch_of commands.space_at commands.batch_of verdict_of
given_1 = refl

pub given_2 : given_behind 1 inserts_two inserted_two ≡ 1
unfolding commands.insert_of commands.space_at commands.inserted_by verdict_of
given_2 = refl

pub given_3 : given_behind 1 asks_more gave_two ≡ 1
unfolding commands.more_of commands.space_at commands.batch_of verdict_of
given_3 = refl

-- ---- the states

opening_is : start_place state_1 nowhere ≡ Some 0
unfolding commands.watch_of commands.space_at commands.batch_of verdict_of answer_of watch_request named_space commands.batch_size effect grown full_behind le32 le64 encode_with digits
opening_is = refl

cursor_1 : state_1.cursors (pos 1) ≡ Some (watching watch 0)
unfolding commands.watch_of commands.space_at commands.batch_of verdict_of answer_of watch_request named_space commands.batch_size effect grown full_behind le32 le64 encode_with digits
cursor_1 = refl

documents_2 : documents_at state_2 app_c ≡ Some (x_1 ∷ x_2 ∷ [])
unfolding commands.watch_of commands.space_at commands.batch_of verdict_of answer_of watch_request named_space commands.batch_size effect grown full_behind le32 le64 encode_with digits commands.insert_of commands.inserted_by insert_request inserting
documents_2 = refl

changes_2 : state_2.changes ≡ entry_1 ∷ entry_2 ∷ []
unfolding commands.watch_of commands.space_at commands.batch_of verdict_of answer_of watch_request named_space commands.batch_size effect grown full_behind le32 le64 encode_with digits commands.insert_of commands.inserted_by insert_request inserting
changes_2 = refl

cursor_2 : state_2.cursors (pos 1) ≡ Some (watching watch 0)
unfolding commands.watch_of commands.space_at commands.batch_of verdict_of answer_of watch_request named_space commands.batch_size effect grown full_behind le32 le64 encode_with digits commands.insert_of commands.inserted_by insert_request inserting
cursor_2 = refl

cursor_3 : state_3.cursors (pos 1) ≡ Some (watching watch 2)
unfolding commands.watch_of commands.space_at commands.batch_of verdict_of answer_of watch_request named_space commands.batch_size effect grown full_behind le32 le64 encode_with digits commands.insert_of commands.inserted_by insert_request inserting commands.more_of more_request
cursor_3 = refl

cursor_4 : state_4.cursors (pos 1) ≡ None
unfolding commands.watch_of commands.space_at commands.batch_of verdict_of answer_of watch_request named_space commands.batch_size effect grown full_behind le32 le64 encode_with digits commands.insert_of commands.inserted_by insert_request inserting commands.more_of more_request commands.kill_of kill_request
cursor_4 = refl

given_4 : state_4.given (pos 1) ≡ true
unfolding commands.watch_of commands.space_at commands.batch_of verdict_of answer_of watch_request named_space commands.batch_size effect grown full_behind le32 le64 encode_with digits commands.insert_of commands.inserted_by insert_request inserting commands.more_of more_request commands.kill_of kill_request
given_4 = refl

view_4 : events_between watch state_4.changes 0 2 ≡ event_1 ∷ event_2 ∷ []
unfolding commands.watch_of commands.space_at commands.batch_of verdict_of answer_of watch_request named_space commands.batch_size effect grown full_behind le32 le64 encode_with digits commands.insert_of commands.inserted_by insert_request inserting commands.more_of more_request commands.kill_of kill_request
view_4 = refl

token_4 : state_4.tokens token_2 ≡ Some 2
unfolding commands.watch_of commands.space_at commands.batch_of verdict_of answer_of watch_request named_space commands.batch_size effect grown full_behind le32 le64 encode_with digits commands.insert_of commands.inserted_by insert_request inserting commands.more_of more_request commands.kill_of kill_request
token_4 = refl

-- ---- the rules' answers

rules_1 : (answer_of nothing (pos 1) opens).reply ≡ opened
unfolding commands.watch_of commands.space_at commands.batch_of verdict_of answer_of watch_request named_space commands.batch_size effect grown full_behind le32 le64 encode_with digits
rules_1 = refl

rules_2 : (answer_of state_1 (pos 2) inserts_two).reply ≡ inserted_two
unfolding commands.watch_of commands.space_at commands.batch_of verdict_of answer_of watch_request named_space commands.batch_size effect grown full_behind le32 le64 encode_with digits commands.insert_of commands.inserted_by insert_request inserting
rules_2 = refl

rules_3 : (answer_of state_2 (pos 2) asks_more).reply ≡ gave_two
unfolding commands.watch_of commands.space_at commands.batch_of verdict_of answer_of watch_request named_space commands.batch_size effect grown full_behind le32 le64 encode_with digits commands.insert_of commands.inserted_by insert_request inserting commands.more_of more_request
rules_3 = refl

rules_4 : (answer_of state_3 (pos 2) kills).reply ≡ killed
unfolding commands.watch_of commands.space_at commands.batch_of verdict_of answer_of watch_request named_space commands.batch_size effect grown full_behind le32 le64 encode_with digits commands.insert_of commands.inserted_by insert_request inserting commands.more_of more_request commands.kill_of kill_request
rules_4 = refl

-- ---- nothing is held back

at_once_1 : AnswersAtOnce nothing state_1 (asked_of opens) (told_of opens opened)
unfolding commands.watch_of commands.space_at commands.batch_of verdict_of answer_of watch_request named_space commands.batch_size effect grown full_behind le32 le64 encode_with digits
at_once_1 = λ from at ended. absurd (nonzero 0 ended)

at_once_2 : AnswersAtOnce state_1 state_2 (asked_of inserts_two) (told_of inserts_two inserted_two)
unfolding commands.watch_of commands.space_at commands.batch_of verdict_of answer_of watch_request named_space commands.batch_size effect grown full_behind le32 le64 encode_with digits commands.insert_of commands.inserted_by insert_request inserting
at_once_2 = λ f has. let none = has.1 in absurd (omega arith)

at_once_3 : AnswersAtOnce state_2 state_3 (asked_of asks_more) (told_of asks_more gave_two)
unfolding commands.watch_of commands.space_at commands.batch_of verdict_of answer_of watch_request named_space commands.batch_size effect grown full_behind le32 le64 encode_with digits commands.insert_of commands.inserted_by insert_request inserting commands.more_of more_request
at_once_3 = (λ w from stood. (λ none. absurd (nonempty _ _ none), λ ended. absurd (nonzero 0 ended)), λ of left stood. absurd (watch_or_query watch 0 of _ stood))

at_once_4 : AnswersAtOnce state_3 state_4 (asked_of kills) (told_of kills killed)
unfolding commands.kill_of verdict_of
at_once_4 = tt

met_1 : (bytes : List ℕ) → fields bytes ≡ opened → MeetsConcern (asked_of opens) bytes
unfolding commands.watch_of commands.space_at
met_1 bytes is = tt

met_2 : (bytes : List ℕ) → fields bytes ≡ inserted_two → MeetsConcern (asked_of inserts_two) bytes
unfolding commands.insert_of commands.space_at
met_2 bytes is = ap (get (codes "writeConcernError")) is

met_3 : (bytes : List ℕ) → fields bytes ≡ gave_two → MeetsConcern (asked_of asks_more) bytes
unfolding commands.more_of commands.space_at
met_3 bytes is = tt

met_4 : (bytes : List ℕ) → fields bytes ≡ killed → MeetsConcern (asked_of kills) bytes
unfolding commands.kill_of
met_4 bytes is = tt

-- ---- the history

-- the states behind the first one, two, three and four of the steps
pub record AreBehind (a b c d : Kept) : Type 0 where
  pub one : state_of (take 1 (steps_of (a ∷ b ∷ c ∷ d ∷ []))) ≡ state_1
  pub two : state_of (take 2 (steps_of (a ∷ b ∷ c ∷ d ∷ []))) ≡ state_2
  pub three : state_of (take 3 (steps_of (a ∷ b ∷ c ∷ d ∷ []))) ≡ state_3
  pub four : state_of (steps_of (a ∷ b ∷ c ∷ d ∷ [])) ≡ state_4

step_behind : {s t : State} {given n : ℕ} (started : Bool) (command reply : Fields) (k : Kept) → s ≡ t → given ≡ n → IsStep command reply k → state_behind s given started k ≡ behind t n started command reply
step_behind started command reply k e f is = ap₂ (λ (s : State) (given : ℕ). state_behind s given started k) e f ∙ behind_is _ _ started command reply k is

are_behind : (a b c d : Kept) → IsStep opens opened a → IsStep inserts_two inserted_two b → IsStep asks_more gave_two c → IsStep kills killed d → AreBehind a b c d
unfolding steps_from state_after
are_behind a b c d ia ib ic id =
    let one = behind_is nothing 0 false opens opened a ia in
    let given_a = given_is 0 opens opened a ia ∙ given_1 in
    let two = step_behind true inserts_two inserted_two b one given_a ib in
    let given_b = ap (λ (n : ℕ). given_after n b) given_a ∙ given_is 1 inserts_two inserted_two b ib ∙ given_2 in
    let three = step_behind true asks_more gave_two c two given_b ic in
    let given_c = ap (λ (n : ℕ). given_after n c) given_b ∙ given_is 1 asks_more gave_two c ic ∙ given_3 in
    let four = step_behind true kills killed d three given_c id in
    record { one = one; two = two; three = three; four = four }

at_once_of : (s : State) (given : ℕ) (started : Bool) (command reply : Fields) (k : Kept) → IsStep command reply k → {t t' : State} → s ≡ t → state_behind s given started k ≡ t'
    → AnswersAtOnce t t' (asked_of command) (told_of command reply) → ((bytes : List ℕ) → fields bytes ≡ reply → MeetsConcern (asked_of command) bytes) → IsAtOnce s (step_of s given started k)
at_once_of s given started command reply k is before after at_once met = at_once_so (step_of s given started k) command reply is.command_is is.reply_is before after at_once met

are_at_once : (a b c d : Kept) → IsStep opens opened a → IsStep inserts_two inserted_two b → IsStep asks_more gave_two c → IsStep kills killed d → AreAtOnce nothing (steps_of (a ∷ b ∷ c ∷ d ∷ []))
unfolding steps_from state_after
are_at_once a b c d ia ib ic id =
    let are = are_behind a b c d ia ib ic id in
    let behind_a : State = state_behind nothing 0 false a in
    let count_a : ℕ = given_after 0 a in
    let behind_b : State = state_behind behind_a count_a true b in
    let count_b : ℕ = given_after count_a b in
    let behind_c : State = state_behind behind_b count_b true c in
    let count_c : ℕ = given_after count_b c in (
      at_once_of nothing 0 false opens opened a ia refl are.one at_once_1 met_1,
      (
        at_once_of behind_a count_a true inserts_two inserted_two b ib are.one are.two at_once_2 met_2,
        (
          at_once_of behind_b count_b true asks_more gave_two c ic are.two are.three at_once_3 met_3,
          (at_once_of behind_c count_c true kills killed d id are.three are.four at_once_4 met_4, tt),
        ),
      ),
    )

pub first_script : (a b c d : Kept) → IsStep opens opened a → IsStep inserts_two inserted_two b → IsStep asks_more gave_two c → IsStep kills killed d → IsExample (steps_of (a ∷ b ∷ c ∷ d ∷ []))
unfolding state_after
first_script a b c d ia ib ic id =
    let are = are_behind a b c d ia ib ic id in
    record {
      opening_is = ap (λ (s : State). start_place s nowhere) are.one ∙ opening_is;
      cursor_opened = ap (λ (s : State). s.cursors (pos 1)) are.one ∙ cursor_1;
      documents_are = ap (λ (s : State). documents_at s app_c) are.two ∙ documents_2;
      changes_are = ap (λ (s : State). s.changes) are.two ∙ changes_2;
      cursor_stays = ap (λ (s : State). s.cursors (pos 1)) are.two ∙ cursor_2;
      cursor_moved = ap (λ (s : State). s.cursors (pos 1)) are.three ∙ cursor_3;
      cursor_gone = ap (λ (s : State). s.cursors (pos 1)) are.four ∙ cursor_4;
      id_given = ap (λ (s : State). s.given (pos 1)) are.four ∙ given_4;
      view_is = ap (λ (s : State). events_between watch s.changes 0 2) are.four ∙ view_4;
      token_named = ap (λ (s : State). s.tokens token_2) are.four ∙ token_4;
      opened_by_rules = rules_1;
      inserted_by_rules = ap (λ (s : State). (answer_of s (pos 2) inserts_two).reply) are.one ∙ rules_2;
      gave_by_rules = ap (λ (s : State). (answer_of s (pos 2) asks_more).reply) are.two ∙ rules_3;
      killed_by_rules = ap (λ (s : State). (answer_of s (pos 2) kills).reply) are.three ∙ rules_4;
      prompt = λ position step own at. each_at_once nothing (steps_of (a ∷ b ∷ c ∷ d ∷ [])) (are_at_once a b c d ia ib ic id) position step at;
    }
