-- The bytes in hand: what is taken out of them, and what comes behind them.
use Rattle.std.proofs.Common.{◌≡◌, ◌<◌, ◌≤◌, ◌+◌, ◌-◌, ◌++◌, ◌∷◌, ℕ, Bool, true, false, List, [], length, map, min, take, drop, Option, Some, None, option_map, refl, sym, ap, ◌∙◌, subst, arith, append_assoc, append-nil, length-append, length-drop, drop-drop, take-append-drop}
use Rattle.std.specs.Prelude.{unwrap_or}
use Rattle.std.specs.List.{concat}
use Rattle.std.proofs.Math.Seq.{take-add}
use Rattle.std.proofs.lemmas.List.{drop-append-le, drop_at, length-take-le, map-append, take-append-le, take_at}
use Rattle.std.proofs.lemmas.List.Folds.{concat-append}
use Rattle.mg_cursor.specs.View.{AdvancesBy, behind_of, current_of}
use Rattle.mg_cursor.specs.declared.buffer.BatchBuffer.{BatchBuffer}
use Rattle.mg_gridfs.specs.DownloadView.{AreLater, HaveBytes, HoldsBytes, IsLater, IsPassed, bytes_in, bytes_of, data_in, front_in, hand_of, nothing, rest_of, some}
use Rattle.mg_gridfs.specs.declared.hand.Hand.{Hand}

pub none_of : {X : Type 0} (l : List X) → length l ≡ 0 → l ≡ []
none_of [] h = refl
none_of (x ∷ xs) h = absurd (omega arith)

-- ---- a batch

front_at : (b : BatchBuffer) (document : List ℕ) → current_of b ≡ Some document → front_in b ≡ data_in document
front_at b document at = ap (λ (o : Option (List ℕ)). unwrap_or (option_map data_in o) []) at

front_none : (b : BatchBuffer) → current_of b ≡ None → front_in b ≡ []
front_none b none = ap (λ (o : Option (List ℕ)). unwrap_or (option_map data_in o) []) none

bytes_at : (b : BatchBuffer) (first : List ℕ) (more : List (List ℕ)) → current_of b ≡ Some first → behind_of b ≡ more → bytes_in b ≡ data_in first ++ concat (map data_in more)
bytes_at b first more at behind = ap (λ (l : List ℕ). l ++ concat (map data_in (behind_of b))) (front_at b first at) ∙ ap (λ (ds : List (List ℕ)). data_in first ++ concat (map data_in ds)) behind

pub bytes_behind : (b : BatchBuffer) (more : List (List ℕ)) → current_of b ≡ None → behind_of b ≡ more → bytes_in b ≡ concat (map data_in more)
bytes_behind b more none behind = ap (λ (l : List ℕ). l ++ concat (map data_in (behind_of b))) (front_none b none) ∙ ap (λ (ds : List (List ℕ)). concat (map data_in ds)) behind

-- it is the same before its first chunk and at it
later_bytes : (batch b : BatchBuffer) (there : Bool) → IsLater batch → AdvancesBy (behind_of batch) b there → bytes_in b ≡ bytes_in batch
later_bytes batch b there later advances =
    let at = subst (λ (ds : List (List ℕ)). AdvancesBy ds b there) later.some advances in
    bytes_at b later.first later.more at.0 at.1 ∙ sym (bytes_behind batch (later.first ∷ later.more) later.before later.some)

-- ---- the hand

pub given_within : (h : Hand) → HoldsBytes h → h.given ≤ length (front_in h.batch)
given_within h (nothing none behind given later) = omega arith
given_within h (some document at less bytes later) = let e = ap (length {A = ℕ}) (front_at h.batch document at) in omega arith

-- the current chunk stands first
pub hand_front : (h : Hand) → HoldsBytes h → hand_of h ≡ drop h.given (front_in h.batch) ++ rest_of h
hand_front h holds =
    ap (λ (l : List ℕ). l ++ bytes_of h.later.items) (drop-append-le h.given (front_in h.batch) (concat (map data_in (behind_of h.batch))) (given_within h holds))
    ∙ append_assoc (drop h.given (front_in h.batch)) (concat (map data_in (behind_of h.batch))) (bytes_of h.later.items)

pub empty_hand : (h : Hand) → current_of h.batch ≡ None → behind_of h.batch ≡ [] → h.given ≡ 0 → h.later.items ≡ [] → hand_of h ≡ []
empty_hand h none behind given later =
    ap (λ (l : List ℕ). drop h.given l ++ bytes_of h.later.items) (bytes_behind h.batch [] none behind)
    ∙ ap (λ (n : ℕ). drop n ([]) ++ bytes_of h.later.items) given
    ∙ ap bytes_of later

-- no chunk is current, and so nothing is in it
pub hand_none : (h : Hand) → HoldsBytes h → None ≡ current_of h.batch → hand_of h ≡ []
hand_none h (nothing none behind given later) is = empty_hand h none behind given later
hand_none h (some document at less bytes later) is = let bad : None ≡ Some document = is ∙ at in absurd cc

front_bytes : (h : Hand) (document : List ℕ) → current_of h.batch ≡ Some document → h.given < length (data_in document) → 0 < length (drop h.given (front_in h.batch))
front_bytes h document at less =
    let e = ap (length {A = ℕ}) (front_at h.batch document at) in
    let d = length-drop h.given (front_in h.batch) in
    omega arith

-- or one is, and so something is in it
pub hand_some : (h : Hand) (document : List ℕ) → HoldsBytes h → Some document ≡ current_of h.batch → hand_of h ≡ [] → ⊥
hand_some h document (nothing none behind given later) at empty = let bad : Some document ≡ None = at ∙ none in cc
hand_some h document (some other there less bytes later) at empty =
    let long = front_bytes h other there less in
    let all = ap (length {A = ℕ}) (sym (hand_front h (some other there less bytes later)) ∙ empty) in
    let parts = length-append (drop h.given (front_in h.batch)) (rest_of h) in
    omega arith

-- no byte is left of the current chunk only where nothing is in it
pub hand_given : (h : Hand) → HoldsBytes h → length (drop h.given (front_in h.batch)) ≡ 0 → hand_of h ≡ []
hand_given h (nothing none behind given later) short = empty_hand h none behind given later
hand_given h (some document at less bytes later) short = let long = front_bytes h document at less in absurd (omega arith)

-- what is known where nothing is in it
pub record IsBare (h : Hand) : Type 0 where
  pub given : h.given ≡ 0
  pub later : h.later.items ≡ []

pub hand_bare : (h : Hand) → HoldsBytes h → hand_of h ≡ [] → IsBare h
hand_bare h (nothing none behind given later) empty = record { given = given; later = later }
hand_bare h (some document at less bytes later) empty = absurd (hand_some h document (some document at less bytes later) (sym at) empty)

pub hand_passed : (h : Hand) → HoldsBytes h → IsPassed h
hand_passed h (nothing none behind given later) = record { behind = subst HaveBytes (sym behind) tt; later = subst AreLater (sym later) tt }
hand_passed h (some document at less bytes later) = record { behind = bytes; later = later }

-- ---- a batch is begun

pub begun_bytes : (h : Hand) (batch b : BatchBuffer) (there : Bool) → h.batch ≡ b → h.given ≡ 0 → IsLater batch → AdvancesBy (behind_of batch) b there → hand_of h ≡ bytes_in batch ++ bytes_of h.later.items
begun_bytes h batch b there now given later advances =
    ap (λ (n : ℕ). drop n (bytes_in h.batch) ++ bytes_of h.later.items) given
    ∙ ap (λ (l : List ℕ). l ++ bytes_of h.later.items) (ap bytes_in now ∙ later_bytes batch b there later advances)

pub begun_holds : (h : Hand) (batch b : BatchBuffer) (there : Bool) → h.batch ≡ b → h.given ≡ 0 → AreLater h.later.items → IsLater batch → AdvancesBy (behind_of batch) b there → HoldsBytes h
begun_holds h batch b there now given all later advances =
    let at = subst (λ (ds : List (List ℕ)). AdvancesBy ds b there) later.some advances in
    let bytes = later.bytes in
    some later.first (ap current_of now ∙ at.0) (subst (λ (n : ℕ). n < length (data_in later.first)) (sym given) bytes.0) (subst HaveBytes (sym (ap behind_of now ∙ at.1)) bytes.1) all

-- ---- a batch is taken

pub taken_bare : (batch : BatchBuffer) (h : Hand) (left : List ℕ) → IsBare h → hand_of h ≡ [] → left ≡ bytes_in batch ++ bytes_of h.later.items → left ≡ hand_of h ++ bytes_in batch
taken_bare batch h left bare empty is =
    is ∙ ap (λ (bs : List BatchBuffer). bytes_in batch ++ bytes_of bs) bare.later ∙ append-nil (bytes_in batch) ∙ sym (ap (λ (l : List ℕ). l ++ bytes_in batch) empty)

bytes_more : (bs : List BatchBuffer) (batch : BatchBuffer) → bytes_of (bs ++ batch ∷ []) ≡ bytes_of bs ++ bytes_in batch
bytes_more bs batch =
    ap concat (map-append bytes_in bs (batch ∷ [])) ∙ concat-append (map bytes_in bs) (bytes_in batch ∷ []) ∙ ap (λ (l : List ℕ). bytes_of bs ++ l) (append-nil (bytes_in batch))

later_more : (bs : List BatchBuffer) (batch : BatchBuffer) → AreLater bs → IsLater batch → AreLater (bs ++ batch ∷ [])
later_more [] batch all later = (later, tt)
later_more (b ∷ bs) batch all later = (all.0, later_more bs batch all.1 later)

-- it is put behind the others
pub queued_bytes : (h h' : Hand) (batch : BatchBuffer) → h'.batch ≡ h.batch → h'.given ≡ h.given → h'.later.items ≡ h.later.items ++ batch ∷ [] → hand_of h' ≡ hand_of h ++ bytes_in batch
queued_bytes h h' batch now given later =
    ap (λ (b : BatchBuffer). drop h'.given (bytes_in b) ++ bytes_of h'.later.items) now
    ∙ ap (λ (n : ℕ). drop n (bytes_in h.batch) ++ bytes_of h'.later.items) given
    ∙ ap (λ (bs : List BatchBuffer). drop h.given (bytes_in h.batch) ++ bytes_of bs) later
    ∙ ap (λ (l : List ℕ). drop h.given (bytes_in h.batch) ++ l) (bytes_more h.later.items batch)
    ∙ sym (append_assoc (drop h.given (bytes_in h.batch)) (bytes_of h.later.items) (bytes_in batch))

pub queued_holds : (h h' : Hand) (batch : BatchBuffer) → HoldsBytes h → (hand_of h ≡ [] → ⊥) → IsLater batch → h'.batch ≡ h.batch → h'.given ≡ h.given → h'.later.items ≡ h.later.items ++ batch ∷ [] → HoldsBytes h'
queued_holds h h' batch (nothing none behind given later) full is now same all = absurd (full (empty_hand h none behind given later))
queued_holds h h' batch (some document at less bytes later) full is now same all =
    some document (ap current_of now ∙ at) (subst (λ (n : ℕ). n < length (data_in document)) (sym same) less) (subst HaveBytes (sym (ap behind_of now)) bytes) (subst AreLater (sym all) (later_more h.later.items batch later is))

-- there was no memory for it
pub same_bytes : (h h' : Hand) → h'.batch ≡ h.batch → h'.given ≡ h.given → h'.later.items ≡ h.later.items → hand_of h' ≡ hand_of h
same_bytes h h' now given later =
    ap (λ (b : BatchBuffer). drop h'.given (bytes_in b) ++ bytes_of h'.later.items) now
    ∙ ap (λ (n : ℕ). drop n (bytes_in h.batch) ++ bytes_of h'.later.items) given
    ∙ ap (λ (bs : List BatchBuffer). drop h.given (bytes_in h.batch) ++ bytes_of bs) later

pub same_holds : (h h' : Hand) → HoldsBytes h → h'.batch ≡ h.batch → h'.given ≡ h.given → h'.later.items ≡ h.later.items → HoldsBytes h'
same_holds h h' (nothing none behind given later) now same all = nothing (ap current_of now ∙ none) (ap behind_of now ∙ behind) (same ∙ given) (all ∙ later)
same_holds h h' (some document at less bytes later) now same all =
    some document (ap current_of now ∙ at) (subst (λ (n : ℕ). n < length (data_in document)) (sym same) less) (subst HaveBytes (sym (ap behind_of now)) bytes) (subst AreLater (sym all) later)

-- ---- bytes are given

-- some of the current chunk are left
pub passed_bytes : (h h' : Hand) (count : ℕ) → HoldsBytes h → count ≤ length (drop h.given (front_in h.batch)) → h'.batch ≡ h.batch → h'.given ≡ h.given + count → h'.later.items ≡ h.later.items → hand_of h' ≡ drop count (hand_of h)
passed_bytes h h' count holds there now given later =
    let whole : drop h'.given (bytes_in h'.batch) ≡ drop count (drop h.given (bytes_in h.batch)) =
    ap (λ (b : BatchBuffer). drop h'.given (bytes_in b)) now ∙ ap (λ (n : ℕ). drop n (bytes_in h.batch)) given ∙ sym (drop-drop count h.given (bytes_in h.batch)) in
    let front = ap (length {A = ℕ}) (drop-append-le h.given (front_in h.batch) (concat (map data_in (behind_of h.batch))) (given_within h holds)) in
    let parts = length-append (drop h.given (front_in h.batch)) (concat (map data_in (behind_of h.batch))) in
    let within : count ≤ length (drop h.given (bytes_in h.batch)) = omega arith in
    ap (λ (l : List ℕ). l ++ bytes_of h'.later.items) whole
    ∙ ap (λ (bs : List BatchBuffer). drop count (drop h.given (bytes_in h.batch)) ++ bytes_of bs) later
    ∙ sym (drop-append-le count (drop h.given (bytes_in h.batch)) (bytes_of h.later.items) within)

pub passed_holds : (h h' : Hand) (count : ℕ) → HoldsBytes h → h.given + count < length (front_in h.batch) → h'.batch ≡ h.batch → h'.given ≡ h.given + count → h'.later.items ≡ h.later.items → HoldsBytes h'
passed_holds h h' count (nothing none behind given later) less now same all =
    let e = ap (length {A = ℕ}) (front_none h.batch none) in
    absurd (omega arith)
passed_holds h h' count (some document at before bytes later) less now same all =
    let e = ap (length {A = ℕ}) (front_at h.batch document at) in
    let within : h'.given < length (data_in document) = omega arith in
    some document (ap current_of now ∙ at) within (subst HaveBytes (sym (ap behind_of now)) bytes) (subst AreLater (sym all) later)

-- none is left
pub passed_all : (h : Hand) (count : ℕ) (left : List ℕ) → HoldsBytes h → count ≤ length (drop h.given (front_in h.batch)) → length (front_in h.batch) ≤ h.given + count → left ≡ rest_of h → left ≡ drop count (hand_of h)
passed_all h count left holds there past is =
    let d = length-drop h.given (front_in h.batch) in
    let within = given_within h holds in
    let all : length (drop h.given (front_in h.batch)) ≡ count = omega arith in
    is ∙ sym (ap (drop count) (hand_front h holds) ∙ drop_at (drop h.given (front_in h.batch)) (rest_of h) count all)

-- the next chunk of the batch
pub next_bytes : (h h' : Hand) (there : Bool) → there ≡ true → h'.given ≡ 0 → h'.later.items ≡ h.later.items → AdvancesBy (behind_of h.batch) h'.batch there → hand_of h' ≡ rest_of h
next_bytes h h' there is given later advances = by_list (behind_of h.batch) refl advances
  where
    by_list : (ds : List (List ℕ)) → behind_of h.batch ≡ ds → AdvancesBy ds h'.batch there → hand_of h' ≡ rest_of h
    by_list [] none by = let bad : true ≡ false = sym is ∙ by.2 in absurd cc
    by_list (d ∷ ds) these by =
        ap (λ (n : ℕ). drop n (bytes_in h'.batch) ++ bytes_of h'.later.items) given
        ∙ ap (λ (l : List ℕ). l ++ bytes_of h'.later.items) (bytes_at h'.batch d ds by.0 by.1)
        ∙ ap (λ (bs : List BatchBuffer). concat (map data_in (d ∷ ds)) ++ bytes_of bs) later
        ∙ sym (ap (λ (l : List (List ℕ)). concat (map data_in l) ++ bytes_of h.later.items) these)

pub next_holds : (h h' : Hand) (there : Bool) → there ≡ true → h'.given ≡ 0 → h'.later.items ≡ h.later.items → IsPassed h → AdvancesBy (behind_of h.batch) h'.batch there → HoldsBytes h'
next_holds h h' there is given later passed advances = by_list (behind_of h.batch) passed.behind advances
  where
    by_list : (ds : List (List ℕ)) → HaveBytes ds → AdvancesBy ds h'.batch there → HoldsBytes h'
    by_list [] bytes by = let bad : true ≡ false = sym is ∙ by.2 in absurd cc
    by_list (d ∷ ds) bytes by =
        some d by.0 (subst (λ (n : ℕ). n < length (data_in d)) (sym given) bytes.0) (subst HaveBytes (sym by.1) bytes.1) (subst AreLater (sym later) passed.later)

-- or none is left in it
pub record IsThrough (h : Hand) (b : BatchBuffer) : Type 0 where
  pub current : current_of b ≡ None
  pub behind : behind_of b ≡ []
  pub none_left : behind_of h.batch ≡ []

pub through : (h : Hand) (b : BatchBuffer) (there : Bool) → there ≡ false → AdvancesBy (behind_of h.batch) b there → IsThrough h b
through h b there is advances = by_list (behind_of h.batch) refl advances
  where
    by_list : (ds : List (List ℕ)) → behind_of h.batch ≡ ds → AdvancesBy ds b there → IsThrough h b
    by_list [] none by = record { current = by.0; behind = by.1; none_left = none }
    by_list (d ∷ ds) these by = let bad : false ≡ true = sym is ∙ by.2 in absurd cc

pub through_bytes : (h : Hand) (b : BatchBuffer) (left : List ℕ) → IsThrough h b → left ≡ bytes_of h.later.items → left ≡ rest_of h
through_bytes h b left end is = is ∙ sym (ap (λ (l : List (List ℕ)). concat (map data_in l) ++ bytes_of h.later.items) end.none_left)

-- no batch is left
pub ended_bytes : (h h' : Hand) → h'.batch ≡ h.batch → h'.given ≡ 0 → current_of h.batch ≡ None → behind_of h.batch ≡ [] → h'.later.items ≡ [] → h.later.items ≡ [] → hand_of h' ≡ bytes_of h.later.items
ended_bytes h h' now given none behind later was = empty_hand h' (ap current_of now ∙ none) (ap behind_of now ∙ behind) given later ∙ sym (ap bytes_of was)

pub ended_holds : (h h' : Hand) → h'.batch ≡ h.batch → h'.given ≡ 0 → current_of h.batch ≡ None → behind_of h.batch ≡ [] → h'.later.items ≡ [] → HoldsBytes h'
ended_holds h h' now given none behind later = nothing (ap current_of now ∙ none) (ap behind_of now ∙ behind) given later

-- ---- bytes are put into the room

-- So far bytes were given: as many stand in the room, and what is behind them is as it was.
pub record Gave (all before : List ℕ) (filled : ℕ) (room left : List ℕ) : Type 0 where
  pub within : filled ≤ length before
  pub there : filled ≤ length all
  pub room_is : room ≡ take filled all ++ drop filled before
  pub left_is : left ≡ drop filled all

pub gave_none : (all before : List ℕ) → Gave all before 0 before all
gave_none all before = let start : 0 ≤ length before = omega arith in let none : 0 ≤ length all = omega arith in record { within = start; there = none; room_is = refl; left_is = refl }

pub room_long : (all before : List ℕ) (filled : ℕ) (room left : List ℕ) → Gave all before filled room left → length room ≡ length before
room_long all before filled room left g =
    let e = ap (length {A = ℕ}) g.room_is ∙ length-append (take filled all) (drop filled before) in
    let t = length-take-le filled all g.there in
    let d = length-drop filled before in
    let w = g.within in
    omega arith

-- as much as was copied
abbrev copied : (filled count : ℕ) (front room : List ℕ) → List ℕ
copied filled count front room = take filled room ++ (take count front ++ drop (filled + count) room)

pub room_copied : (filled count : ℕ) (front room room' : List ℕ) → filled ≤ length room → count ≡ min (length front) (length room - filled) → room' ≡ take filled room ++ (take count front ++ drop (filled + count) room) → length room' ≡ length room
room_copied filled count front room room' fits count_is is =
    let inside : count ≤ length front = omega arith in
    let e = ap (length {A = ℕ}) is ∙ length-append (take filled room) (take count front ++ drop (filled + count) room) in
    let f = length-append (take count front) (drop (filled + count) room) in
    let t = length-take-le filled room fits in
    let u = length-take-le count front inside in
    let d = length-drop (filled + count) room in
    omega arith

pub none_copied : (filled count : ℕ) (front room room' : List ℕ) → count ≡ 0 → room' ≡ take filled room ++ (take count front ++ drop (filled + count) room) → room' ≡ room
none_copied filled count front room room' none is =
    let start : filled + 0 ≡ filled = omega arith in
    is ∙ ap (λ (n : ℕ). copied filled n front room) none ∙ ap (λ (n : ℕ). take filled room ++ drop n room) start ∙ take-append-drop filled room

-- as many more as fit
pub record GivesMore (left front : List ℕ) (filled count : ℕ) (room room' left' : List ℕ) : Type 0 where
  pub rest : List ℕ
  pub parts : left ≡ front ++ rest
  pub count_is : count ≡ min (length front) (length room - filled)
  pub room_is : room' ≡ take filled room ++ (take count front ++ drop (filled + count) room)
  pub left_is : left' ≡ drop count left

pub gave_more : (all before : List ℕ) (filled : ℕ) (room left front : List ℕ) (count : ℕ) (room' left' : List ℕ) → Gave all before filled room left → filled ≤ length room → GivesMore left front filled count room room' left' → Gave all before (filled + count) room' left'
gave_more all before filled room left front count room' left' g fits m =
    let long = room_long all before filled room left g in
    let count_is = m.count_is in
    let inside : count ≤ length front = omega arith in
    let parts = ap (length {A = ℕ}) (sym g.left_is ∙ m.parts) ∙ length-append front m.rest in
    let dropped = length-drop filled all in
    let t = length-take-le filled all g.there in
    let there_so = g.there in
    let within : filled + count ≤ length before = omega arith in
    let there : filled + count ≤ length all = omega arith in
    let first : take filled room ≡ take filled all = ap (take filled) g.room_is ∙ take_at (take filled all) (drop filled before) filled t in
    let more : take count front ≡ take count (drop filled all) = sym (take-append-le count front m.rest inside) ∙ ap (take count) (sym m.parts ∙ g.left_is) in
    let behind : drop (filled + count) room ≡ drop (filled + count) before =
    sym (drop-drop count filled room) ∙ ap (drop count) (ap (drop filled) g.room_is ∙ drop_at (take filled all) (drop filled before) filled t) ∙ drop-drop count filled before in
    record {
      within = within;
      there = there;
      room_is = m.room_is ∙ ap (λ (l : List ℕ). l ++ (take count front ++ drop (filled + count) room)) first
          ∙ ap (λ (l : List ℕ). take filled all ++ (l ++ drop (filled + count) room)) more
          ∙ ap (λ (l : List ℕ). take filled all ++ (take count (drop filled all) ++ l)) behind
          ∙ sym (append_assoc (take filled all) (take count (drop filled all)) (drop (filled + count) before))
          ∙ ap (λ (l : List ℕ). l ++ drop (filled + count) before) (sym (take-add filled count all));
      left_is = m.left_is ∙ ap (drop count) g.left_is ∙ drop-drop count filled all;
    }

-- the room is full
pub gave_full : (all before : List ℕ) (filled : ℕ) (room left : List ℕ) → Gave all before filled room left → length room ≤ filled → filled ≡ min (length before) (length all)
gave_full all before filled room left g full =
    let long = room_long all before filled room left g in
    let within = g.within in
    let there = g.there in
    omega arith

-- or nothing is left
pub gave_all : (all before : List ℕ) (filled : ℕ) (room left : List ℕ) → Gave all before filled room left → left ≡ [] → filled ≡ min (length before) (length all)
gave_all all before filled room left g none =
    let empty = ap (length {A = ℕ}) (sym g.left_is ∙ none) in
    let dropped = length-drop filled all in
    let within = g.within in
    let there = g.there in
    omega arith
