-- What the gets of a run blame, of files that its puts write.
use Rattle.std.proofs.Common.{◌≡◌, ◌∷◌, ◌++◌, [], ℕ, suc, ℤ, Bool, false, List, Some, Result, Ok, Err, length, take, sym, ◌∙◌, subst, arith}
use Rattle.std.specs.List.{concat}
use Rattle.std.specs.Prelude.{IfOk, slice_get}
use Rattle.mg_bson.specs.Tree.{Fields, Tree}
use Rattle.mg_server.specs.Calls.{Past}
use Rattle.mg_server.specs.Files.{chunks_space, file_of}
use Rattle.mg_server.specs.History.{state_of}
use Rattle.mg_link.specs.Link.{Awaited, LogTold}
use Rattle.mg_link.specs.Log.{Call}
use Rattle.mg_link.specs.declared.error.Error.{Error}
use Rattle.mg_server.proofs.Owners.{same_some}
use Rattle.mg_ops.specs.Naming.{IsNamed}
use Rattle.mg_players.specs.Behind.{BlamesBehind, RemovesOnce, WholeBehind}
use Rattle.mg_players.specs.Blaming.{AllBehind, GetBehind}
use Rattle.mg_players.specs.Causes.{AllCaused, AreSentIn, Course, GetCaused, OutcomeCaused, PutEnds, commands_at, course, places_of, sent_at}
use Rattle.mg_players.specs.Drawing.{as_sent, supply_of}
use Rattle.mg_players.specs.Files.{HasReadOther}
use Rattle.mg_players.specs.Gets.{GetTask, get_of}
use Rattle.mg_players.specs.Headline.{AllFiled, GetGave, PutLeft}
use Rattle.mg_players.specs.Kinds.{OfGet, OfPut}
use Rattle.mg_players.specs.Plays.{Places}
use Rattle.mg_players.specs.PutSends.{PutEndsSent, SentSome, file_chunks}
use Rattle.mg_players.specs.Puts.{PutTask, Supply, put_of}
use Rattle.mg_players.specs.Sends.{AllSendOnly, IsPutCommand, MaySend, SendsOnly}
use Rattle.mg_players.proofs.GetBlamed.{blamed_named}
use Rattle.mg_players.proofs.GetCausing.{all_own}
use Rattle.mg_players.proofs.Knowing.{get_length}
use Rattle.mg_players.proofs.Naming.{files_named}
use Rattle.mg_script.specs.Plan.{Task, get, put}
use Rattle.mg_script.specs.declared.outcome.Ended.{Ended}
use Rattle.mg_script.specs.declared.outcome.Ended.TheVariants as ended
use Rattle.mg_script.specs.declared.outcome.Outcome.{Outcome}
use Rattle.mg_script.specs.declared.outcome.Outcome.TheVariants as outcome
use Rattle.mg_script.specs.declared.outcome.Played.{Played}
use Rattle.mg_turns.specs.declared.turned.Turned.{Turned}
use Rattle.mg_jobs.proofs.Behind.{removed_before}
use Rattle.mg_jobs.proofs.PutLater.{removes_once}
use Rattle.mg_jobs.proofs.RecordMade.{inserted_before}

-- ---- what a put sent

-- however it ended, it sent the commands of a put
put_sends : (supply : Supply) (t : PutTask) (written : ℕ) (ever past : Past) (commands : List Fields) (end : Ended ℕ) → PutEndsSent supply t written ever past commands end → (removed : Bool) × SentSome supply t ever commands removed
put_sends supply t written ever past commands ended.Unfinished s = (s.0, s.1)
put_sends supply t written ever past commands (ended.Gave n) s = (false, (length (file_chunks t), Some s.0, s.1))
put_sends supply t written ever past commands (ended.Failed e) s = (s.0, s.1)

module _ (awaited : Awaited) (c : Course) (j : ℕ) (calls : List Call) (wire : ℤ) (supply : Supply) (t : PutTask) (end : Ended ℕ) (p : PutEnds awaited c j calls wire supply t end) where
  -- each of its places is of a command that one of its turns sent
  put_own : AreSentIn c j (places_of c j)
  put_own =
      let q : Places = record { opened = []; owns = p.owns; now = p.places } in
      subst (AreSentIn c j) p.whole (all_own c j q (suc (length p.owns)) (record { opened = λ place of. absurd of; owns = p.sent_each; now = p.sent; whole = p.whole }))

  put_once : IsNamed (chunks_space t.at) → RemovesOnce c j calls t
  put_once named =
      let ever : Past = sent_at (concat p.owns ++ p.places) calls wire in
      let s = put_sends supply t (length p.owns) ever (sent_at p.places calls wire) (commands_at calls (places_of c j)) end p.sends in
      removes_once supply t ever c j calls s.1.0 s.1.1 s.0 s.1.2 (files_named t.at named.db) named put_own

-- ---- chunks that are blamed

-- A get that read other chunks than the record says, of a file that a put writes, listed them behind a step by which the put was to remove them.
blames_behind : (c : Course) (j i : ℕ) (calls : List Call) (supply : Supply) (t : PutTask) (e : Error) → IsNamed (chunks_space t.at) → WholeBehind c j calls t → RemovesOnce c j calls t → SendsOnly (IsPutCommand supply t) c j calls → HasReadOther c i calls t.at t.id e → BlamesBehind c j i calls t e
blames_behind c j i calls supply t e named whole once sends reads history legal stands leave =
    let x = reads history legal stands in
    let some : (file_of (state_of (take (suc x.found.opened) history)) t.at t.id).records ≡ [] → ⊥ = λ none. (let bad : x.found.first ∷ x.found.more ≡ [] = sym x.found.stood ∙ none in absurd cc) in (
      x,
      λ since.
          let r = inserted_before supply t (files_named t.at named.db) named c j calls sends history legal stands leave (suc x.found.opened) (omega (arith, since)) some in
          let before = r.before in
          removed_before c j i calls t e named whole history legal stands leave x r.position r.recorded (omega (arith, before)) once,
    )

-- the file of each put is whole behind its record
put_whole : (c : Course) (j : ℕ) (calls : List Call) (t : PutTask) (end : Ended ℕ) → PutLeft c j calls t end → WholeBehind c j calls t
put_whole c j calls t ended.Unfinished left = left
put_whole c j calls t (ended.Gave n) left = left.1
put_whole c j calls t (ended.Failed e) left = left.1

module _ (awaited : Awaited) (c : Course) (j i : ℕ) (calls : List Call) (wire : ℤ) (t : PutTask) (g : GetTask) where
  abbrev ReadsBehind : Type 0
  ReadsBehind = (e : Error) → IsNamed (chunks_space g.at) → HasReadOther c i calls g.at g.id e → BlamesBehind c j i calls t e

  at_end : ReadsBehind → (bytes : List ℕ) (end : Ended (Unit {0})) → GetGave c i calls g bytes end → GetCaused awaited c i calls wire g bytes end → GetBehind c j i calls t end
  at_end behind bytes ended.Unfinished gave caused = tt
  at_end behind bytes (ended.Gave x) gave caused = tt
  at_end behind bytes (ended.Failed e) gave caused = λ blames. behind e (blamed_named c i calls wire g bytes e caused.0 blames) (gave.0 blames).1

  of_get : ReadsBehind → (r : Outcome) → OfGet (λ bytes end. GetGave c i calls g bytes.items end) r → OfGet (λ bytes end. GetCaused awaited c i calls wire g bytes.items end) r → OfGet (λ bytes end. GetBehind c j i calls t end) r
  of_get behind (outcome.Get bytes end) gave caused = at_end behind bytes.items end gave caused
  of_get behind (outcome.Insert end) gave caused = absurd gave
  of_get behind (outcome.Follow opened said token alive closed) gave caused = absurd gave
  of_get behind (outcome.Put end) gave caused = absurd gave

-- a put and a get of one file
module _ (awaited : Awaited) (c : Course) (j i : ℕ) (calls : List Call) (wire : ℤ) (supply : Supply) (db bucket name : List ℕ) (id : Tree) (chunk : ℕ) (pieces : List (List ℕ)) (read : ℕ) where
  abbrev its_put : PutTask
  its_put = put_of db bucket name id chunk pieces

  abbrev its_get : GetTask
  its_get = get_of db bucket id read

  one_behind : SendsOnly (IsPutCommand supply its_put) c j calls → (o : Outcome) → OfPut (λ end. PutEnds awaited c j calls wire supply its_put end) o → OfPut (λ end. PutLeft c j calls its_put end) o
      → (r : Outcome) → OfGet (λ bytes end. GetGave c i calls its_get bytes.items end) r → OfGet (λ bytes end. GetCaused awaited c i calls wire its_get bytes.items end) r → OfGet (λ bytes end. GetBehind c j i calls its_put end) r
  one_behind sends (outcome.Put end) ends left r gave caused =
      of_get awaited c j i calls wire its_put its_get
      (λ e named reads. blames_behind c j i calls supply its_put e named (put_whole c j calls its_put end left) (put_once awaited c j calls wire supply its_put end ends named) sends reads) r gave caused
  one_behind sends (outcome.Insert end) ends left r gave caused = absurd ends
  one_behind sends (outcome.Follow opened said token alive closed) ends left r gave caused = absurd ends
  one_behind sends (outcome.Get bytes end) ends left r gave caused = absurd ends

-- ---- a run

module _ (supply : Supply) (awaited : Awaited) (log log' : LogTold) (wire : ℤ) (tasks : List Task) (order : List ℕ) where
  all_behind : (notes : List Turned) (outcomes : List Outcome) → length tasks ≡ length outcomes → AllCaused supply awaited log log' wire tasks order notes outcomes → AllFiled log log' tasks order notes outcomes → AllSendOnly supply log log' tasks order notes → AllBehind log log' tasks order notes outcomes
  all_behind notes outcomes count caused filed sends calls told =
      let f = filed calls told in
      let k = caused calls told in
      let s = sends calls told in
      let c : Course = course calls order notes in
      let caused_by : (i : ℕ) (t : Task) (r : Outcome) → slice_get tasks i ≡ Some t → slice_get outcomes i ≡ Some r → OutcomeCaused awaited c i f.0 wire (supply_of supply tasks order i) (as_sent supply.ids tasks order i t) r
      = λ i t r ht hr. subst (λ (l : List Call). OutcomeCaused awaited (course calls order notes) i l wire (supply_of supply tasks order i) (as_sent supply.ids tasks order i t) r) (same_some k.0 f.0 (sym k.1 ∙ f.1)) (k.2 i t r ht hr) in
      let sent_by : (i : ℕ) (t : Task) → slice_get tasks i ≡ Some t → SendsOnly (MaySend (supply_of supply tasks order i) (as_sent supply.ids tasks order i t)) c i f.0
      = λ i t ht. subst (λ (l : List Call). SendsOnly (MaySend (supply_of supply tasks order i) (as_sent supply.ids tasks order i t)) (course calls order notes) i l) (same_some s.0 f.0 (sym s.1 ∙ f.1)) (s.2 i t ht) in (
        f.0,
        f.1,
        λ j i db bucket name id chunk pieces read r puts gets there.
            let t : Task = put db bucket name id chunk pieces in
            let o = get_length outcomes tasks count j t puts in
            one_behind awaited c j i f.0 wire (supply_of supply tasks order j) db bucket name id chunk pieces read (sent_by j t puts) o.0 (caused_by j t o.0 puts o.1) (f.2 j t o.0 puts o.1) r
            (f.2 i (get db bucket id read) r gets there) (caused_by i (get db bucket id read) r gets there),
      )

  -- the same of a run, unless memory ran out
  pub behind_so : (result : Result Played Error) (n : ℕ) → n ≡ length tasks → IfOk result (λ p. length p.outcomes.items ≡ n) → IfOk result (λ p. AllCaused supply awaited log log' wire tasks order p.turns.items p.outcomes.items) → IfOk result (λ p. AllFiled log log' tasks order p.turns.items p.outcomes.items)
      → IfOk result (λ p. AllSendOnly supply log log' tasks order p.turns.items) → IfOk result (λ p. AllBehind log log' tasks order p.turns.items p.outcomes.items)
  behind_so (Ok p) n jobs count caused filed sends = all_behind p.turns.items p.outcomes.items (sym (count ∙ jobs)) caused filed sends
  behind_so (Err e) n jobs count caused filed sends = tt
