-- The full chunks that a put has sent behind each of its calls.
use Rattle.std.proofs.Common.{◌≡◌, ◌<◌, ◌≤◌, ◌+◌, ◌*◌, ℕ, zero, suc, ℤ, Bool, true, false, List, [], ◌∷◌, ◌++◌, length, length-append, take, drop, Some, refl, sym, ap, ◌∙◌, subst, inl, inr, arith, append-nil, append_assoc}
use Rattle.std.specs.List.{concat}
use Rattle.std.specs.Prelude.{slice_get}
use Rattle.std.proofs.lemmas.List.{take_all}
use Rattle.mg_bson.specs.Tree.{Fields}
use Rattle.mg_server.specs.Calls.{Keeps, Past}
use Rattle.mg_link.specs.Link.{Awaited, LogTold}
use Rattle.mg_link.specs.Log.{Call}
use Rattle.mg_gridfs.specs.Calls as calls_of
use Rattle.mg_gridfs.specs.Calls.{Writes, wrote_by}
use Rattle.mg_gridfs.specs.Steps as steps
use Rattle.mg_gridfs.specs.Steps.{Stepped}
use Rattle.mg_gridfs.specs.Uploads.{Aim, ClientUpload, Doing, busy, idle, write}
use Rattle.mg_gridfs.specs.declared.polls.WritePoll.{WritePoll}
use Rattle.mg_gridfs.specs.declared.polls.WritePoll.TheVariants as wrote
use Rattle.mg_players.specs.Causes.{AllWritten, AreInLog, commands_at}
use Rattle.mg_players.specs.Plays.{Places, all_places}
use Rattle.mg_players.specs.PutSends.{DoingSent, Reach, SendsFull, SentChunks}
use Rattle.mg_players.specs.Puts.{CutBy, IsCutAt, IsPutDoing, NeedsFull, PutTask, Supply, joined, put_aim, taken_in, total}
use Rattle.mg_players.proofs.Commands.{at_kept}
use Rattle.mg_players.proofs.JustGrown.{before_or}
use Rattle.mg_players.proofs.PutPolled.{joined_on, takes_write}
use Rattle.mg_players.proofs.PutSending.{joined_total}
use Rattle.mg_players.proofs.Whole.{concat_more}

-- ---- the first calls

first_below : (places more : List ℕ) (n : ℕ) → AreInLog n (places ++ more) → AreInLog n places
first_below [] more n below = tt
first_below (place ∷ places) more n below = (below.0, first_below places more n below.1)

second_below : (places more : List ℕ) (n : ℕ) → AreInLog n (places ++ more) → AreInLog n more
second_below [] more n below = below
second_below (place ∷ places) more n below = second_below places more n below.1

concat_parts : (k : ℕ) (owns : List (List ℕ)) → concat owns ≡ concat (take k owns) ++ concat (drop k owns)
concat_parts zero owns = refl
concat_parts (suc k) [] = refl
concat_parts (suc k) (own ∷ owns) = ap (λ (l : List ℕ). own ++ l) (concat_parts k owns) ∙ sym (append_assoc own (concat (take k owns)) (concat (drop k owns)))

-- what they sent stands in the log
calls_below : (q : Places) (n : ℕ) → AreInLog n (all_places q) → (k : ℕ) → AreInLog n (concat (take k q.owns))
calls_below q n below k = first_below (concat (take k q.owns)) (concat (drop k q.owns)) n (subst (AreInLog n) (concat_parts k q.owns) (first_below (concat q.owns) q.now n (second_below q.opened (concat q.owns ++ q.now) n below)))

-- they are told so by a later log
pub full_later : (supply : Supply) (t : PutTask) (calls calls' : List Call) (q : Places) → Keeps calls calls' → AreInLog (length calls) (all_places q) → AllWritten supply t calls q.owns → AllWritten supply t calls' q.owns
full_later supply t calls calls' q keeps below full n less =
    subst (SendsFull supply t (total (take (suc n) t.pieces))) (sym (at_kept calls calls' keeps (concat (take (suc n) q.owns)) (calls_below q (length calls) below (suc n)))) (full n less)

-- ---- one call more

take_here : (owns : List (List ℕ)) (own : List ℕ) (n : ℕ) → n ≤ length owns → take n (owns ++ own ∷ []) ≡ take n owns
take_here owns own zero room = refl
take_here [] own (suc n) room = absurd (omega (arith, room))
take_here (x ∷ owns) own (suc n) room = ap (λ (l : List (List ℕ)). x ∷ l) (take_here owns own n (omega (arith, room)))

module _ (supply : Supply) (t : PutTask) (calls : List Call) (owns : List (List ℕ)) (own : List ℕ) where
  abbrev Sends : ℕ → List ℕ → Type 0
  Sends n places = SendsFull supply t (total (take (suc n) t.pieces)) (commands_at calls places)

  pub full_more : AllWritten supply t calls owns → SendsFull supply t (total (take (suc (length owns)) t.pieces)) (commands_at calls (concat owns ++ own)) → AllWritten supply t calls (owns ++ own ∷ [])
  full_more full last n less = elim (before_or n (length owns)) [
    | inl before ↦ subst (λ (l : List (List ℕ)). Sends n (concat l)) (sym (take_here owns own (suc n) (omega (arith, before)))) (full n before)
    | inr behind ↦ newest n behind less
  ]
    where
      newest : (n : ℕ) → length owns ≤ n → n < length (owns ++ own ∷ []) → Sends n (concat (take (suc n) (owns ++ own ∷ [])))
      newest n behind less =
          let count : length (owns ++ own ∷ []) ≡ length owns + 1 = length-append owns (own ∷ []) in
          let here : length owns ≡ n = omega (arith, behind, less, count) in
          let places : concat (take (suc n) (owns ++ own ∷ [])) ≡ concat owns ++ own = ap (λ (l : List (List ℕ)). concat l) (take_all (suc n) (owns ++ own ∷ []) (omega (arith, count, here))) ∙ concat_more owns own in
          subst (λ (l : List ℕ). Sends n l) (sym places) (subst (λ (m : ℕ). Sends m (concat owns ++ own)) here last)

-- ---- between two calls

nothing_yet : (t : PutTask) (bytes : ℕ) (commands : List Fields) (checked : Bool) → (checked ≡ true → t.chunk ≤ bytes) → (checked ≡ false → commands ≡ []) → bytes < t.chunk → commands ≡ []
nothing_yet t bytes commands true needs nothing small = (let full = needs refl in absurd (omega (arith, full, small)))
nothing_yet t bytes commands false needs nothing small = nothing refl

-- all full chunks of the bytes that it took are inserted
sends_full : (supply : Supply) (t : PutTask) (all : Past) (commands : List Fields) (u : ClientUpload) (taken : List ℕ) (bytes : ℕ) → u.aim ≡ put_aim t → SentChunks supply t all commands u.checked u.sent → IsCutAt u taken 0 → length u.behind < u.aim.size → (u.checked ≡ true → t.chunk ≤ length taken) → length taken ≡ bytes → SendsFull supply t bytes commands
sends_full supply t all commands u taken bytes aim s cut short needs counts =
    let size : u.aim.size ≡ t.chunk = ap (λ (a : Aim). a.size) aim in
    let none : u.sent + 0 ≡ u.sent = omega arith in
    let front : length cut.front ≡ u.sent * t.chunk = cut.even ∙ ap (λ (n : ℕ). n * u.aim.size) none ∙ ap (λ (m : ℕ). u.sent * m) size in
    let both : length taken ≡ length cut.front + length u.behind = ap length cut.parts ∙ length-append cut.front u.behind in
    record {
      check = s.check;
      chunks = s.chunks;
      parts = s.parts;
      count = u.sent;
      pieces = s.pieces;
      left = length u.behind;
      even = ap (λ (n : ℕ). n + length u.behind) (sym front) ∙ sym both ∙ counts;
      less = subst (λ (m : ℕ). length u.behind < m) size short;
      none = nothing_yet t bytes commands u.checked (λ is. subst (λ (n : ℕ). t.chunk ≤ n) counts (needs is)) s.nothing;
    }

-- behind a write, which sent at these places
pub written_full : (supply : Supply) (t : PutTask) (R : Reach) (all past : Past) (calls : List Call) (q : Places) (own : List ℕ) (made : ℕ) (u : ClientUpload) → q.opened ≡ [] → length q.owns ≡ made → u.doing ≡ idle → u.aim ≡ put_aim t → DoingSent supply t R all past (commands_at calls (q.opened ++ (concat (q.owns ++ own ∷ []) ++ []))) u.checked u.sent u.doing
    → CutBy u (joined (take (made + 1) t.pieces)) u.doing → length u.behind < u.aim.size → (u.checked ≡ true → t.chunk ≤ length (joined (take (made + 1) t.pieces))) → SendsFull supply t (total (take (suc (length q.owns)) t.pieces)) (commands_at calls (concat q.owns ++ own))
written_full supply t R all past calls q own made u opened counted rests_so aim so cut short needs =
    let more : List ℕ = concat (q.owns ++ own ∷ []) ++ [] in
    let places : q.opened ++ more ≡ concat q.owns ++ own = ap (λ (l : List ℕ). l ++ more) opened ∙ append-nil (concat (q.owns ++ own ∷ [])) ∙ concat_more q.owns own in
    let next : made + 1 ≡ suc (length q.owns) = omega (arith, counted) in
    let taken : List ℕ = joined (take (made + 1) t.pieces) in
    let counts : length taken ≡ total (take (suc (length q.owns)) t.pieces) = joined_total (take (made + 1) t.pieces) ∙ ap (λ (n : ℕ). total (take n t.pieces)) next in
    sends_full supply t all (commands_at calls (concat q.owns ++ own)) u taken (total (take (suc (length q.owns)) t.pieces)) aim
    (subst (λ (l : List ℕ). SentChunks supply t all (commands_at calls l) u.checked u.sent) places (subst (DoingSent supply t R all past (commands_at calls (q.opened ++ more)) u.checked u.sent) rests_so so)) (subst (CutBy u taken) rests_so cut) short needs counts

-- ---- a poll of a write

-- behind it, unless it failed, a full chunk was taken where the write goes on, or where the bucket is checked
abbrev pub FullBy : PutTask → Bool → List ℕ → WritePoll → Type 0
FullBy t checked now wrote.Pending = t.chunk ≤ length now
FullBy t checked now (wrote.Wrote n) = checked ≡ true → t.chunk ≤ length now
FullBy t checked now (wrote.Failed e) = Unit {0}

full_by : (t : PutTask) (checked : Bool) (now : List ℕ) (piece : ℕ) (s : Stepped) → t.chunk ≤ length now → FullBy t checked now (wrote_by piece s)
full_by t checked now piece (steps.goes p) full = full
full_by t checked now piece (steps.waits p) full = full
full_by t checked now piece steps.done full = λ is. full
full_by t checked now piece (steps.failed e) full = tt

module _ (t : PutTask) (old new : Awaited) (log log' : LogTold) (wire : ℤ) (ids : ℕ → List ℕ) (drawn : ℕ) (u u' : ClientUpload) (aim : u.aim ≡ put_aim t) (bytes : List ℕ) (made : ℕ) (there : slice_get t.pieces made ≡ Some bytes) (within : made < length t.pieces) (doing : IsPutDoing u.doing made (length t.pieces)) (cut : CutBy u (taken_in u.doing t.pieces made) u.doing) (needs : NeedsFull t u.checked u.doing (taken_in u.doing t.pieces made)) where
  abbrev pub Now : List ℕ
  Now = joined (take (made + 1) t.pieces)

  has_full : u.doing ≡ idle → u.aim.size ≤ length (u.behind ++ bytes) → t.chunk ≤ length Now
  has_full is full =
      let c : IsCutAt u (joined (take made t.pieces)) 0 = subst (λ (d : Doing). CutBy u (taken_in d t.pieces made) d) is cut in
      let parts : Now ≡ c.front ++ (u.behind ++ bytes) = joined_on t.pieces made bytes there ∙ ap (λ (l : List ℕ). l ++ bytes) c.parts ∙ append_assoc c.front u.behind bytes in
      let count : length Now ≡ length c.front + length (u.behind ++ bytes) = ap length parts ∙ length-append c.front (u.behind ++ bytes) in
      let size : u.aim.size ≡ t.chunk = ap (λ (a : Aim). a.size) aim in
      omega (arith, count, size, full)

  has_more : t.chunk ≤ length (joined (take made t.pieces)) → t.chunk ≤ length Now
  has_more full = let count : length Now ≡ length (joined (take made t.pieces)) + length bytes = ap length (joined_on t.pieces made bytes there) ∙ length-append (joined (take made t.pieces)) bytes in omega (arith, count, full)

  needs_at : (d : Doing) → u.doing ≡ d → NeedsFull t u.checked d (taken_in d t.pieces made)
  needs_at d is = subst (λ (x : Doing). NeedsFull t u.checked x (taken_in x t.pieces made)) is needs

  pub write_full : (r : WritePoll) → Writes old new log log' wire ids drawn u u' bytes r → FullBy t u'.checked Now r
  write_full r (calls_of.refused refuses quiet is) = absurd (takes_write u.doing made (length t.pieces) doing within refuses)
  write_full r (calls_of.not_taken rests_so quiet is) = subst (FullBy t u'.checked Now) (sym is) tt
  write_full r (calls_of.kept rests_so short quiet none is answer) = subst (FullBy t u'.checked Now) (sym answer) (λ yes. has_more (needs_at idle rests_so (sym (ap (λ (x : ClientUpload). x.checked) is) ∙ yes)))
  write_full r (calls_of.starts rests_so full s drives answer) = subst (FullBy t u'.checked Now) (sym answer) (full_by t u'.checked Now (length bytes) s (has_full rests_so full))
  write_full r (calls_of.goes_on piece p is s drives answer) = subst (FullBy t u'.checked Now) (sym answer) (full_by t u'.checked Now piece s (needs_at (busy (write piece) p) is))
