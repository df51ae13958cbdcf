-- What a poll of a put's upload sends, and how the bytes that it took are cut behind it.
use Rattle.std.proofs.Common.{◌≡◌, ◌<◌, ◌≤◌, ◌+◌, ℕ, zero, suc, ℤ, Bool, true, false, List, [], ◌∷◌, ◌++◌, length, take, drop, Some, refl, sym, ap, ◌∙◌, subst, arith, append-nil, append_assoc}
use Rattle.std.specs.Prelude.{slice_get, if◌then◌else◌}
use Rattle.std.proofs.lemmas.List.{take_all}
use Rattle.mg_link.specs.Link.{Awaited, LogTold}
use Rattle.mg_ops.specs.Drawn.{AreLater}
use Rattle.mg_gridfs.specs.Calls as calls
use Rattle.mg_gridfs.specs.Calls.{Closes, Drives, TakesNoClose, TakesNoWrite, Writes, at_work, doing_behind, first_phase, with_bytes}
use Rattle.mg_gridfs.specs.Steps.{Stepped, ids_behind}
use Rattle.mg_gridfs.specs.Storing.{taken_by}
use Rattle.mg_gridfs.specs.Uploads as uploads
use Rattle.mg_gridfs.specs.Uploads.{ClientUpload, Doing, IsBetween, IsOfCall, IsSoundPhase, Phase, RestsBy, SoundBy, abort, begins, busy, checks, close, closed, ends, fills, idle, inserts, lands, lasts, records, removes, rests, undoes, write}
use Rattle.mg_gridfs.specs.declared.polls.Step2.{Step2}
use Rattle.mg_gridfs.specs.declared.polls.Step2.TheVariants as end
use Rattle.mg_gridfs.specs.declared.polls.WritePoll.{WritePoll}
use Rattle.mg_gridfs.specs.declared.polls.WritePoll.TheVariants as wrote
use Rattle.mg_gridfs.proofs.Calling.{bounds_bytes}
use Rattle.mg_gridfs.proofs.Polled.{begun_sound, begun_writes, bounds_doing, sound_doing}
use Rattle.mg_players.specs.Puts.{ComeNext, CutBy, CutByPhase, DoingSupplied, IsCutAt, IsMoment, IsPutDoing, PhaseSupplied, PutTask, Supply, joined, put_aim, taken_in}
use Rattle.mg_players.specs.Sends.{IsPutCommand, PhaseFlies, PutFlies}
use Rattle.mg_players.proofs.PutChecking.{AddsTold, told_same}
use Rattle.mg_players.proofs.PutSending.{Fits, SentSteps, Stands, steps_send}
use Rattle.mg_players.proofs.PutSupplied.{doing_as, steps_supplied}

-- ---- pieces

-- the bytes of the first pieces, and of the others
joined_parts : (n : ℕ) (ps : List (List ℕ)) → joined ps ≡ joined (take n ps) ++ joined (drop n ps)
joined_parts zero ps = refl
joined_parts (suc n) [] = refl
joined_parts (suc n) (p ∷ ps) = ap (λ (l : List ℕ). p ++ l) (joined_parts n ps) ∙ sym (append_assoc p (joined (take n ps)) (joined (drop n ps)))

joined_next : (ps : List (List ℕ)) (k : ℕ) (p : List ℕ) → slice_get ps k ≡ Some p → joined (take (suc k) ps) ≡ joined (take k ps) ++ p
joined_next [] k p there = absurd cc
joined_next (x ∷ ps) zero p there = let same : x ≡ p = cc in append-nil x ∙ same
joined_next (x ∷ ps) (suc k) p there = ap (λ (l : List ℕ). x ++ l) (joined_next ps k p there) ∙ sym (append_assoc x (joined (take k ps)) p)

pub joined_on : (ps : List (List ℕ)) (k : ℕ) (p : List ℕ) → slice_get ps k ≡ Some p → joined (take (k + 1) ps) ≡ joined (take k ps) ++ p
joined_on ps k p there = let next : k + 1 ≡ suc k = omega arith in ap (λ (n : ℕ). joined (take n ps)) next ∙ joined_next ps k p there

-- ---- what an upload is doing makes no difference to its bytes

pub cut_doing : (u : ClientUpload) (d : Doing) (taken : List ℕ) (more : ℕ) → IsCutAt u taken more → IsCutAt (record u { doing = d }) taken more
cut_doing u d taken more cut = record { front = cut.front; parts = cut.parts; even = cut.even }

pub phase_doing : (u : ClientUpload) (d : Doing) (taken : List ℕ) (p : Phase) → CutByPhase u taken p → CutByPhase (record u { doing = d }) taken p
phase_doing u d taken begins cut = cut_doing u d taken 0 cut
phase_doing u d taken (checks c) cut = cut_doing u d taken 0 cut
phase_doing u d taken fills cut = cut_doing u d taken 0 cut
phase_doing u d taken (inserts s count) cut = cut_doing u d taken count cut
phase_doing u d taken (rests moment) cut = cut_doing u d taken 0 cut
phase_doing u d taken (lasts s ending) cut = cut
phase_doing u d taken (ends ending) cut = cut
phase_doing u d taken (records s ending) cut = cut
phase_doing u d taken (lands flight error) cut = cut
phase_doing u d taken (undoes error) cut = cut
phase_doing u d taken (removes s error) cut = cut

stands_doing : (supply : Supply) (t : PutTask) (u : ClientUpload) (other : Doing) (taken : List ℕ) (d : Doing) → Stands supply t u taken d → Stands supply t (record u { doing = other }) taken d
stands_doing supply t u other taken idle s = (cut_doing u other taken 0 s.0, s.1)
stands_doing supply t u other taken (busy call p) s = (phase_doing u other taken p s.0, s.1)
stands_doing supply t u other taken closed s = s

-- ---- a poll

-- what it sent, and how the upload stands behind it, unless it failed
pub record PollSent (supply : Supply) (t : PutTask) (log log' : LogTold) (u' : ClientUpload) (Ahead : Type 0 → Type 0) (taken : List ℕ) : Type 0 where
  pub adds : AddsTold (IsPutCommand supply t) log log'
  pub aim_is : u'.aim ≡ put_aim t
  pub stands : Ahead (Stands supply t u' taken u'.doing)

abbrev pub Ahead : WritePoll → Type 0 → Type 0
Ahead wrote.Pending P = P
Ahead (wrote.Wrote n) P = P
Ahead (wrote.Failed e) P = Unit {0}

pub ahead : (r : WritePoll) (P : Type 0) → P → Ahead r P
ahead wrote.Pending P p = p
ahead (wrote.Wrote n) P p = p
ahead (wrote.Failed e) P p = tt

abbrev pub AheadEnd : Step2 → Type 0 → Type 0
AheadEnd end.Pending P = P
AheadEnd end.Done P = P
AheadEnd (end.Failed e) P = Unit {0}

pub ahead_end : (r : Step2) (P : Type 0) → P → AheadEnd r P
ahead_end end.Pending P p = p
ahead_end end.Done P p = p
ahead_end (end.Failed e) P p = tt

-- the steps of a poll, as the upload that it leaves
driven : (supply : Supply) (t : PutTask) (taken : List ℕ) (call : uploads.Call) (log log' : LogTold) (left u' : ClientUpload) (r : Stepped) → u' ≡ record left { doing = doing_behind call r } → SentSteps supply t taken call log log' left r → AddsTold (IsPutCommand supply t) log log' × (u'.aim ≡ put_aim t) × Stands supply t u' taken u'.doing
driven supply t taken call log log' left u' r is s =
    subst (λ (x : ClientUpload). AddsTold (IsPutCommand supply t) log log' × (x.aim ≡ put_aim t) × Stands supply t x taken x.doing) (sym is)
    (s.adds, s.aim_is, stands_doing supply t left (doing_behind call r) taken (doing_behind call r) s.stands)

-- a put writes while pieces are left
pub takes_write : (d : Doing) (made count : ℕ) → IsPutDoing d made count → made < count → TakesNoWrite d → ⊥
takes_write idle made count doing within refuses = refuses
takes_write (busy (write piece) p) made count doing within refuses = refuses
takes_write (busy close p) made count doing within refuses = omega (arith, doing, within)
takes_write (busy abort p) made count doing within refuses = doing
takes_write closed made count doing within refuses = doing

-- a put closes nothing that has ended
pub takes_close : (d : Doing) (made count : ℕ) → IsPutDoing d made count → TakesNoClose d → ⊥
takes_close idle made count doing refuses = refuses
takes_close (busy (write piece) p) made count doing refuses = refuses
takes_close (busy close p) made count doing refuses = refuses
takes_close (busy abort p) made count doing refuses = doing
takes_close closed made count doing refuses = doing

pub first_cut : (u : ClientUpload) (taken : List ℕ) (b : Bool) → IsCutAt u taken 0 → CutByPhase u taken (if b then fills else begins)
first_cut u taken true cut = cut
first_cut u taken false cut = cut

pub first_flies : (supply : Supply) (t : PutTask) (b : Bool) → PhaseFlies supply t (if b then fills else begins)
first_flies supply t true = tt
first_flies supply t false = tt

pub first_supplied : (supply : Supply) (t : PutTask) (ids : ℕ → List ℕ) (sent : ℕ) (b : Bool) → ComeNext supply t ids sent → PhaseSupplied supply t ids sent (if b then fills else begins)
first_supplied supply t ids sent true next = next
first_supplied supply t ids sent false next = next

module _ (supply : Supply) (t : PutTask) (old new : Awaited) (log log' : LogTold) (wire : ℤ) (ids : ℕ → List ℕ) (drawn : ℕ) (u u' : ClientUpload) (between : IsBetween u) (aim : u.aim ≡ put_aim t) where
  -- a phase that goes on
  pub sound_on : (call : uploads.Call) (p : Phase) → u.doing ≡ busy call p → IsSoundPhase (at_work u) p × IsOfCall call p
  sound_on call p is = (sound_doing u idle p (subst (SoundBy u) is between.sound.by), (subst RestsBy is between.rests_so).1)

  drives_on : (taken rest : List ℕ) → joined t.pieces ≡ taken ++ rest → (call : uploads.Call) → Fits call rest → (p : Phase) → u.doing ≡ busy call p → CutBy u taken (busy call p) → PutFlies supply t u.doing → DoingSupplied supply t ids u.sent u.doing → (s : Stepped) → Drives old new log log' wire ids drawn call u u' p s → AddsTold (IsPutCommand supply t) log log' × (u'.aim ≡ put_aim t) × Stands supply t u' taken u'.doing
  drives_on taken rest whole call fits p is cut flies so s d =
      let sound = sound_on call p is in
      driven supply t taken call log log' d.left u' s d.behind
      (steps_send supply t taken rest whole call fits d.steps old new log log' wire ids drawn (at_work u) d.left p s aim (bounds_doing u idle between.sound.bounds) sound.0 sound.1 (phase_doing u idle taken p cut) (subst (PutFlies supply t) is flies) (subst (DoingSupplied supply t ids u.sent) is so) d.does)

  -- ---- a write

  module _ (bytes : List ℕ) (made : ℕ) (there : slice_get t.pieces made ≡ Some bytes) (within : made < length t.pieces) (doing : IsPutDoing u.doing made (length t.pieces)) (cut : CutBy u (taken_in u.doing t.pieces made) u.doing) (flies : PutFlies supply t u.doing) where
    abbrev pub Now : List ℕ
    Now = joined (take (made + 1) t.pieces)

    pub rest_of : joined t.pieces ≡ Now ++ joined (drop (made + 1) t.pieces)
    rest_of = joined_parts (made + 1) t.pieces

    at_idle : u.doing ≡ idle → IsCutAt u (joined (take made t.pieces)) 0
    at_idle is = subst (λ (d : Doing). CutBy u (taken_in d t.pieces made) d) is cut

    -- the bytes of the piece are taken
    pub takes : u.doing ≡ idle → IsCutAt (with_bytes bytes u) Now 0
    takes is =
        let c = at_idle is in
        record {
          front = c.front;
          parts = joined_on t.pieces made bytes there ∙ ap (λ (l : List ℕ). l ++ bytes) c.parts ∙ append_assoc c.front u.behind bytes;
          even = c.even;
        }

    starts_on : DoingSupplied supply t ids u.sent u.doing → u.doing ≡ idle → (s : Stepped) → Drives old new log log' wire ids drawn (write (length bytes)) (with_bytes bytes u) u' (first_phase u) s → AddsTold (IsPutCommand supply t) log log' × (u'.aim ≡ put_aim t) × Stands supply t u' Now u'.doing
    starts_on so is s d =
        let v = at_work (with_bytes bytes u) in
        driven supply t Now (write (length bytes)) log log' d.left u' s d.behind
        (steps_send supply t Now (joined (drop (made + 1) t.pieces)) rest_of (write (length bytes)) tt d.steps old new log log' wire ids drawn v d.left (first_phase u) s aim (bounds_doing (with_bytes bytes u) idle (bounds_bytes bytes u between.sound.bounds)) (begun_sound v u.checked refl)
        (begun_writes (length bytes) u.checked) (first_cut v Now u.checked (cut_doing (with_bytes bytes u) idle Now 0 (takes is))) (first_flies supply t u.checked) (first_supplied supply t ids u.sent u.checked (subst (DoingSupplied supply t ids u.sent) is so)) d.does)

    as_ahead : (r : WritePoll) → AddsTold (IsPutCommand supply t) log log' × (u'.aim ≡ put_aim t) × Stands supply t u' Now u'.doing → PollSent supply t log log' u' (Ahead r) Now
    as_ahead r s = record { adds = s.0; aim_is = s.1; stands = ahead r (Stands supply t u' Now u'.doing) s.2 }

    pub write_sends : DoingSupplied supply t ids u.sent u.doing → (r : WritePoll) → Writes old new log log' wire ids drawn u u' bytes r → PollSent supply t log log' u' (Ahead r) Now
    write_sends so r (calls.refused refuses quiet is) = absurd (takes_write u.doing made (length t.pieces) doing within refuses)
    write_sends so r (calls.not_taken rests_so quiet is) = record {
      adds = told_same (IsPutCommand supply t) log log' quiet.quiet.log_same;
      aim_is = ap (λ (x : ClientUpload). x.aim) quiet.same ∙ aim;
      stands = subst (λ (x : WritePoll). Ahead x (Stands supply t u' Now u'.doing)) (sym is) tt;
    }
    write_sends so r (calls.kept rests_so short quiet none is answer) =
        let c = takes rests_so in
        as_ahead r (
          told_same (IsPutCommand supply t) log log' quiet.log_same,
          ap (λ (x : ClientUpload). x.aim) is ∙ aim,
          subst (λ (x : ClientUpload). Stands supply t x Now x.doing) (sym is) (subst (λ (d : Doing). Stands supply t (with_bytes bytes u) Now d) (sym rests_so) (c, tt)),
        )
    write_sends so r (calls.starts rests_so full s drives answer) = as_ahead r (starts_on so rests_so s drives)
    write_sends so r (calls.goes_on piece p is s drives answer) =
        as_ahead r (drives_on Now (joined (drop (made + 1) t.pieces)) rest_of (write piece) tt p is (subst (λ (d : Doing). CutBy u (taken_in d t.pieces made) d) is cut) flies so s drives)

  -- ---- a close

  module _ (made : ℕ) (all : length t.pieces ≤ made) (doing : IsPutDoing u.doing made (length t.pieces)) (cut : CutBy u (taken_in u.doing t.pieces made) u.doing) (flies : PutFlies supply t u.doing) where
    as_end : (r : Step2) → AddsTold (IsPutCommand supply t) log log' × (u'.aim ≡ put_aim t) × Stands supply t u' (joined t.pieces) u'.doing → PollSent supply t log log' u' (AheadEnd r) (joined t.pieces)
    as_end r s = record { adds = s.0; aim_is = s.1; stands = ahead_end r (Stands supply t u' (joined t.pieces) u'.doing) s.2 }

    rests_on : DoingSupplied supply t ids u.sent u.doing → (moment : ℤ) → IsMoment supply.moment moment → u.doing ≡ idle → (s : Stepped) → Drives old new log log' wire ids drawn close u u' (rests moment) s → AddsTold (IsPutCommand supply t) log log' × (u'.aim ≡ put_aim t) × Stands supply t u' (joined t.pieces) u'.doing
    rests_on so moment its is s d =
        let c : IsCutAt u (joined (take made t.pieces)) 0 = subst (λ (x : Doing). CutBy u (taken_in x t.pieces made) x) is cut in
        let whole : IsCutAt u (joined t.pieces) 0 = subst (λ (ps : List (List ℕ)). IsCutAt u (joined ps) 0) (take_all made t.pieces all) c in
        driven supply t (joined t.pieces) close log log' d.left u' s d.behind
        (steps_send supply t (joined t.pieces) [] (sym (append-nil (joined t.pieces))) close refl d.steps old new log log' wire ids drawn (at_work u) d.left (rests moment) s aim (bounds_doing u idle between.sound.bounds) (subst (SoundBy u) is between.sound.by) tt (cut_doing u idle (joined t.pieces) 0 whole) tt (subst (DoingSupplied supply t ids u.sent) is so, its) d.does)

    pub no_write : (piece : ℕ) (p : Phase) → u.doing ≡ busy (write piece) p → ⊥
    no_write piece p is = let more : made + 1 ≤ length t.pieces = subst (λ (d : Doing). IsPutDoing d made (length t.pieces)) is doing in omega (arith, more, all)

    pub close_sends : DoingSupplied supply t ids u.sent u.doing → (moment : ℤ) → IsMoment supply.moment moment → (r : Step2) → Closes old new log log' wire ids drawn moment u u' r → PollSent supply t log log' u' (AheadEnd r) (joined t.pieces)
    close_sends so moment its r (calls.refused refuses quiet is) = absurd (takes_close u.doing made (length t.pieces) doing refuses)
    close_sends so moment its r (calls.starts rests_so s drives answer) = as_end r (rests_on so moment its rests_so s drives)
    close_sends so moment its r (calls.gives_up piece p is s drives answer) = absurd (no_write piece p is)
    close_sends so moment its r (calls.goes_on p is s drives answer) =
        as_end r (drives_on (joined t.pieces) [] (sym (append-nil (joined t.pieces))) close refl p is (subst (λ (d : Doing). CutBy u (taken_in d t.pieces made) d) is cut) flies so s drives)

-- ---- what its source gives behind a poll

module _ (supply : Supply) (t : PutTask) (old new : Awaited) (log log' : LogTold) (wire : ℤ) (ids later : ℕ → List ℕ) (drawn : ℕ) (behind : AreLater ids drawn later) (u u' : ClientUpload) (between : IsBetween u) (so : DoingSupplied supply t ids u.sent u.doing) where
  -- the source behind it
  abbrev Then : Type 0
  Then = DoingSupplied supply t later u'.sent u'.doing

  -- nothing was drawn
  then_as : (v : ClientUpload) → u' ≡ v → drawn ≡ 0 → DoingSupplied supply t ids v.sent v.doing → Then
  then_as v is none h =
      subst (λ (x : ClientUpload). DoingSupplied supply t later x.sent x.doing) (sym is)
      (doing_as supply t ids later (λ k. (let same : drawn + k ≡ k = omega (arith, none) in behind k ∙ ap ids same)) v.sent v.doing h)

  drives_supplied : (call : uploads.Call) (p : Phase) (v : ClientUpload) (s : Stepped) → IsOfCall call p → PhaseSupplied supply t ids v.sent p → Drives old new log log' wire ids drawn call v u' p s → Then
  drives_supplied call p v s own h d =
      subst (λ (x : ClientUpload). DoingSupplied supply t later x.sent x.doing) (sym d.behind)
      (doing_as supply t (ids_behind drawn ids) later (λ k. behind k) d.left.sent (doing_behind call s) (steps_supplied supply t call d.steps old new log log' wire ids drawn (at_work v) d.left p s own h d.does))

  goes_supplied : (call : uploads.Call) (p : Phase) (s : Stepped) → u.doing ≡ busy call p → Drives old new log log' wire ids drawn call u u' p s → Then
  goes_supplied call p s is d = drives_supplied call p u s (subst RestsBy is between.rests_so).1 (subst (DoingSupplied supply t ids u.sent) is so) d

  module _ (bytes : List ℕ) (made count : ℕ) (within : made < count) (doing : IsPutDoing u.doing made count) where
    pub write_supplied : (r : WritePoll) → Writes old new log log' wire ids drawn u u' bytes r → Ahead r Then
    write_supplied r (calls.refused refuses quiet is) = absurd (takes_write u.doing made count doing within refuses)
    write_supplied r (calls.not_taken rests_so quiet is) = subst (λ (x : WritePoll). Ahead x Then) (sym is) tt
    write_supplied r (calls.kept rests_so short quiet none is answer) = ahead r Then (then_as (with_bytes bytes u) is none so)
    write_supplied r (calls.starts rests_so full s drives answer) =
        ahead r Then (drives_supplied (write (length bytes)) (first_phase u) (with_bytes bytes u) s (begun_writes (length bytes) u.checked) (first_supplied supply t ids u.sent u.checked (subst (DoingSupplied supply t ids u.sent) rests_so so)) drives)
    write_supplied r (calls.goes_on piece p is s drives answer) = ahead r Then (goes_supplied (write piece) p s is drives)

  module _ (made count : ℕ) (all : count ≤ made) (doing : IsPutDoing u.doing made count) where
    pub close_supplied : (moment : ℤ) → IsMoment supply.moment moment → (r : Step2) → Closes old new log log' wire ids drawn moment u u' r → AheadEnd r Then
    close_supplied moment its r (calls.refused refuses quiet is) = absurd (takes_close u.doing made count doing refuses)
    close_supplied moment its r (calls.starts idle_so s drives answer) = ahead_end r Then (drives_supplied close (rests moment) u s tt (subst (DoingSupplied supply t ids u.sent) idle_so so, its) drives)
    close_supplied moment its r (calls.gives_up piece p is s drives answer) = (let more : made + 1 ≤ count = subst (λ (d : Doing). IsPutDoing d made count) is doing in absurd (omega (arith, more, all)))
    close_supplied moment its r (calls.goes_on p is s drives answer) = ahead_end r Then (goes_supplied close p s is drives)

-- ---- what is taken

-- the bytes taken behind a poll of a write are those of one piece more
pub taken_on : (d : Doing) (ps : List (List ℕ)) (made : ℕ) (bytes : List ℕ) → IsPutDoing d made (length ps) → made < length ps → slice_get ps made ≡ Some bytes → taken_by d (taken_in d ps made) bytes ≡ joined (take (made + 1) ps)
taken_on idle ps made bytes doing within there = sym (joined_on ps made bytes there)
taken_on (busy (write piece) p) ps made bytes doing within there = refl
taken_on (busy close p) ps made bytes doing within there = absurd (omega (arith, doing, within))
taken_on (busy abort p) ps made bytes doing within there = absurd doing
taken_on closed ps made bytes doing within there = absurd doing

-- a close takes no more
pub taken_whole : (d : Doing) (ps : List (List ℕ)) (made : ℕ) → IsPutDoing d made (length ps) → length ps ≤ made → taken_in d ps made ≡ joined ps
taken_whole idle ps made doing all = ap joined (take_all made ps all)
taken_whole (busy (write piece) p) ps made doing all = absurd (omega (arith, doing, all))
taken_whole (busy close p) ps made doing all = refl
taken_whole (busy abort p) ps made doing all = absurd doing
taken_whole closed ps made doing all = absurd doing
