-- What the calls of a get gave, one behind another, goes on to be told, call by call.
use Rattle.std.proofs.Common.{◌≡◌, ◌<◌, ◌++◌, ℕ, ℤ, List, [], ◌∷◌, length, take, Ok, refl, sym, ap, ◌∙◌, subst, arith, append-nil, append_assoc}
use Rattle.std.specs.List.{concat}
use Rattle.std.proofs.lemmas.List.{take-append-le, take_all}
use Rattle.mg_server.specs.Calls.{Grows, Keeps, Past}
use Rattle.mg_link.specs.Log.{Call}
use Rattle.mg_server.specs.Owner.{IsOf}
use Rattle.mg_cursor.specs.Client.{ClientCursor, new_client}
use Rattle.mg_chunks.specs.Sizes.{chunk_count_of}
use Rattle.mg_records.specs.FileRecords.{FileRecord}
use Rattle.mg_gridfs.specs.Downloads.{ClientDownload, empty_download, new_download}
use Rattle.mg_gridfs.specs.ReadCauses.{cursor_in}
use Rattle.mg_players.specs.Causes.{GaveAll, HasRead, sent_at}
use Rattle.mg_players.specs.Gets.{GetTask, room_of}
use Rattle.mg_players.specs.Reading as reading
use Rattle.mg_players.specs.Reading.{GivesBy, IsBegun, ListsIts}
use Rattle.mg_players.proofs.GetCounting.{gives_grow}
use Rattle.mg_players.proofs.GetReading.{list_grow}
use Rattle.mg_players.proofs.GetSending.{IsNewDownload, has_none, lists_some}
use Rattle.mg_players.proofs.JustGrown.{later_just}
use Rattle.mg_players.proofs.Telling.{grows_later, in_first, in_second}

-- ---- as it was opened

pub begun_grows : (past past' : Past) → Grows past past' → (g : GetTask) (d : ClientDownload) → IsBegun past g d → IsBegun past' g d
begun_grows past past' grows g d (reading.has_list cursor bytes is counted holding list) = reading.has_list cursor bytes is counted holding (list_grow past past' grows g d.file cursor bytes list)
begun_grows past past' grows g d (reading.is_empty none is) = reading.is_empty none is

pub new_begun : (past : Past) (g : GetTask) (d : ClientDownload) → IsNewDownload d → chunk_count_of d.file.length d.file.chunk_size ≡ Ok d.count → ListsIts past g d → IsBegun past g d
new_begun past g d (lists_some f count out bytes with is) counted lists =
    let c : ClientCursor = new_client out in
    let file : d.file ≡ f = ap (λ (x : ClientDownload). x.file) is in
    let many : d.count ≡ count = ap (λ (x : ClientDownload). x.count) is in
    reading.has_list c out.initial_reply (is ∙ ap (λ (x : FileRecord). new_download x count c) (sym file) ∙ ap (λ (n : ℕ). new_download d.file n c) (sym many)) counted refl
    ((lists c (ap (λ (x : ClientDownload). cursor_in x.doing) is)).held out.initial_reply refl).1
new_begun past g d (has_none f none is) counted lists =
    let file : d.file ≡ f = ap (λ (x : ClientDownload). x.file) is in
    reading.is_empty (ap (λ (x : FileRecord). x.length) file ∙ none) (is ∙ ap empty_download (sym file))

-- ---- one call more

pub gave_on : (calls : List Call) (wire : ℤ) (room : ℕ) (d : ClientDownload) (owns : List (List ℕ)) (bytes : List ℕ) (last : ClientDownload) (own given : List ℕ) (after : ClientDownload) → GaveAll calls wire room d owns bytes last → 0 < length given → GivesBy (sent_at own calls wire) room last after given → GaveAll calls wire room d (owns ++ own ∷ []) (bytes ++ given) after
gave_on calls wire room d [] bytes last own given after g more gives =
    (given, [], after, ap (λ (l : List ℕ). l ++ given) g.0 ∙ sym (append-nil given), more, subst (λ (x : ClientDownload). GivesBy (sent_at own calls wire) room x after given) g.1 gives, (refl, refl))
gave_on calls wire room d (one ∷ owns) bytes last own given after g more gives =
    (g.0, g.1 ++ given, g.2, ap (λ (l : List ℕ). l ++ given) g.3 ∙ append_assoc g.0 g.1 given, g.4, g.5, gave_on calls wire room g.2 owns g.1 last own given after g.6 more gives)

-- what was read stands at the front of the room
pub front_is : (now given more : List ℕ) (count : ℕ) → now ≡ given ++ more → count ≡ length given → take count now ≡ given
front_is now given more count is long =
    let le : length given ≡ length given = refl in
    ap (λ (n : ℕ). take n now) long ∙ ap (take (length given)) is ∙ take-append-le (length given) given more (omega (arith, le)) ∙ take_all (length given) given (omega (arith, le))

-- ---- a later log

pub gave_later : (calls calls' : List Call) (wire : ℤ) → Keeps calls calls' → (room : ℕ) (d : ClientDownload) (owns : List (List ℕ)) (bytes : List ℕ) (last : ClientDownload) → ((place : ℕ) → IsOf (concat owns) place → place < length calls) → GaveAll calls wire room d owns bytes last → GaveAll calls' wire room d owns bytes last
gave_later calls calls' wire keeps room d [] bytes last below g = g
gave_later calls calls' wire keeps room d (own ∷ owns) bytes last below g =
    let still = later_just own calls calls' wire keeps (λ place of. below place (in_first own (concat owns) place of)) in
    (g.0, g.1, g.2, g.3, g.4, gives_grow (sent_at own calls wire) (sent_at own calls' wire) still room d g.2 g.0 g.5, gave_later calls calls' wire keeps room g.2 owns g.1 last (λ place of. below place (in_second own (concat owns) place of)) g.6)

pub read_later : (calls calls' : List Call) (wire : ℤ) → Keeps calls calls' → (g : GetTask) (f : FileRecord) (opened : List ℕ) (owns : List (List ℕ)) (bytes : List ℕ) (last : ClientDownload) → ((place : ℕ) → IsOf (concat owns) place → place < length calls) → HasRead calls wire g f opened owns bytes last → HasRead calls' wire g f opened owns bytes last
read_later calls calls' wire keeps g f opened owns bytes last below h = record {
  first = h.first;
  begun = begun_grows (sent_at opened calls wire) (sent_at opened calls' wire) (grows_later opened calls calls' wire keeps) g h.first h.begun;
  file = h.file;
  gave = gave_later calls calls' wire keeps (room_of g.read) h.first owns bytes last below h.gave;
}
