-- The moves of the reader of a query's result.
use Rattle.std.proofs.Common.{◌≡◌, ◌≢◌, ◌⊎◌, ◌+◌, ℕ, suc, ℤ, pos, Bool, true, false, List, [], ◌∷◌, ◌++◌, length, take, Option, Some, None, refl, sym, ap, ◌∙◌, subst, inl, inr, arith, append_assoc}
use Rattle.std.specs.Prelude.{slice_get}
use Rattle.mg_bson.specs.Tree.{Fields}
use Rattle.mg_link.specs.Namespace.{Space}
use Rattle.mg_server.specs.State.{State}
use Rattle.mg_server.specs.Query.{result}
use Rattle.mg_server.specs.Commands.{Asked, asks_more, asks_kill, Told, garbled, Batch, asked, told}
use Rattle.mg_server.specs.History.{Step, IsLegal, state_of, told_at}
use Rattle.mg_link.specs.Log.{Sight, waiting, reply, Call, see}
use Rattle.mg_link.specs.Link as link
use Rattle.mg_link.specs.Link.{Adds, Sees}
use Rattle.mg_server.specs.Standing.{Names, GivenTo, Stands}
use Rattle.mg_server.specs.Owner.{IsOf, NamesOwn, Holds, IsGrown}
use Rattle.mg_server.specs.Follow.{Reads}
use Rattle.mg_server.specs.Reader.{Fetching, still, fetching, Reader, coming_to, owner_of_reader, Portion, losses_in, GivesNext, AfterFetch, MayBeFetched, HandBy, FactsOf, KnowsRead, ReadOn, ReadMoved}
use Rattle.mg_link.proofs.Places.{get_seam}
use Rattle.mg_server.proofs.Owners.{grown_push, grown_see, BackTo, back_to, stands_without, stands_unseen}
use Rattle.mg_server.proofs.Apart.{Sends, OwnsOld, SawGiven, seen_still, owns_from, holds_added, holds_seen, passes_added, passes_seen, passes_here, passes_same, passes_on}
use Rattle.mg_server.proofs.Follows.{placed_within}
use Rattle.mg_server.proofs.Heard.{HeardStep, heard_at, told_heard, giving_heard}
use Rattle.mg_server.proofs.Moving.{waits_last}
use Rattle.mg_server.proofs.Moves.{at_last, same_step}
use Rattle.mg_server.proofs.Openings.{IsNext}
use Rattle.mg_server.proofs.Resumes.{kill_names}
use Rattle.mg_server.proofs.Readers.{kept_push, losses_push, holds_or_none, fixed_kept, opener_grown, reader_facts_in}
use Rattle.mg_server.proofs.Portions.{fetch_tells, kill_leaves, cut_further, lost_in}

-- ---- one move after another

pub reader_stayed : (log log' : link.LogTold) (r : Reader) → log' ≡ log → ReadMoved log log' r r
reader_stayed log log' r same calls told_log =
    (calls, same ∙ told_log, record { knows = λ k. k; passes = λ k. passes_same calls (owner_of_reader r) k.owned })

read_on : (a b c : List Call) (r r' r'' : Reader) → ReadOn a b r r' → ReadOn b c r' r'' → ReadOn a c r r''
read_on a b c r r' r'' p q =
    record {
      knows = λ k. q.knows (p.knows k);
      passes = λ k. passes_on a b c (owner_of_reader r) (owner_of_reader r') (owner_of_reader r'') (p.passes k) (q.passes (p.knows k));
    }

pub reader_on : (log log' log'' : link.LogTold) (r r' r'' : Reader) → ReadMoved log log' r r' → ReadMoved log' log'' r' r'' → ReadMoved log log'' r r''
reader_on log log' log'' r r' r'' p q calls told_log =
    let x = p calls told_log in
    let y = q x.0 x.1 in
    (y.0, y.1, read_on calls x.0 y.0 r r' r'' x.2 y.2)

-- ---- what is in hand

hand_of : (calls : List Call) (history : List Step) (r : Reader) (position : ℕ) (d : Fetching) → r.doing ≡ d → (f : FactsOf calls history r position) → HandBy calls history r.cursor f.left d
hand_of calls history r position d is f = subst (λ (e : Fetching). HandBy calls history r.cursor f.left e) is f.hand

-- the reader with something else in hand
abbrev pub doing_so : Reader → Fetching → Reader
doing_so r d = record r { doing = d }

-- what it knows one call later
reader_added : (calls : List Call) (call : Call) (r : Reader) (d : Fetching) → Holds (calls ++ call ∷ []) (owner_of_reader (doing_so r d)) → KnowsRead calls r
    → ((history : List Step) (p : ℕ) (b : BackTo calls call history p) → call.position ≡ Some p → (position : ℕ) (f : FactsOf calls b.before r position) → HandBy (calls ++ call ∷ []) history r.cursor f.left d)
    → ((history : List Step) → call.position ≡ None → (position : ℕ) (f : FactsOf calls history r position) → HandBy (calls ++ call ∷ []) history r.cursor f.left d)
    → KnowsRead (calls ++ call ∷ []) (doing_so r d)
reader_added calls call r d holds k some none =
    record {
      owned = holds;
      opened = opener_grown calls (calls ++ call ∷ []) r (doing_so r d) refl refl (grown_push calls call) k.opened;
      facts = λ history legal stands position placed.
          let g = (grown_push calls call).keeps r.opened k.opened.call k.opened.found in
          facts_by history call.position refl legal stands position (sym g.3 ∙ placed);
    }
  where
    facts_by : (history : List Step) (o : Option ℕ) → call.position ≡ o → IsLegal history → Stands (calls ++ call ∷ []) history → (position : ℕ) → k.opened.call.position ≡ Some position → FactsOf (calls ++ call ∷ []) history (doing_so r d) position
    facts_by history None is legal stands position placed =
        let f = k.facts history legal (stands_without calls call history stands is legal) position placed in
        record { all = f.all; fixed = f.fixed; portions = f.portions; left = f.left; cut = f.cut; these = f.these; few = f.few; hand = none history is position f; ends = f.ends }
    facts_by history (Some p) is legal stands position placed =
        let b = back_to calls call history stands p is legal in
        let f = k.facts b.before b.legal b.stands position placed in
        let lt = placed_within calls b.before r.opened k.opened.call position b.stands k.opened.found placed in
        record {
          all = f.all;
          fixed = ap (λ (h : List Step). result (state_of (take (suc position) h)) r.query) b.whole ∙ fixed_kept b.before (b.step ∷ b.rest) position r.query lt ∙ f.fixed;
          portions = f.portions;
          left = f.left;
          cut = f.cut;
          these = f.these;
          few = f.few;
          hand = some history p b is position f;
          ends = f.ends;
        }

-- what it knows behind an answer
reader_seen : (n : ℕ) (seen : Sight) (calls : List Call) (call : Call) (r r' : Reader) → slice_get calls n ≡ Some call → call.seen ≡ waiting → ((m : ℕ) → IsOf (coming_to r'.doing) (Some m) → ⊥) → r'.opened ≡ r.opened → r'.query ≡ r.query
    → (KnowsRead calls r → OwnsOld calls (see n seen calls) (owner_of_reader r) (owner_of_reader r')) → (KnowsRead calls r → SawGiven calls (see n seen calls) (owner_of_reader r'))
    → (KnowsRead calls r → (history : List Step) → IsLegal history → Stands calls history → Stands (see n seen calls) history → (position : ℕ) → FactsOf calls history r position → FactsOf (see n seen calls) history r' position)
    → ReadOn calls (see n seen calls) r r'
reader_seen n seen calls call r r' found waits quiet at same old saw facts =
    let grown : IsGrown calls (see n seen calls) = grown_see n seen calls call found waits in
    record {
      knows = λ k. record {
        owned = holds_seen n seen calls call (owner_of_reader r) (owner_of_reader r') found waits quiet (old k) (saw k) k.owned;
        opened = opener_grown calls (see n seen calls) r r' at same grown k.opened;
        facts = λ history legal stands' position placed.
            let stands = stands_unseen n seen calls call history found waits stands' in
            let g = grown.keeps r.opened k.opened.call k.opened.found in
            facts k history legal stands stands' position (k.facts history legal stands position (sym g.3 ∙ placed));
      };
      passes = λ k. passes_seen n seen calls call (owner_of_reader r) (owner_of_reader r') found waits quiet (old k) (saw k) k.owned;
    }

-- an id that is that of the cursor, or 0
one_id : (c id : ℤ) → (id ≡ c) ⊎ (id ≡ pos 0) → (x : ℤ) → IsOf (id ∷ []) x → x ≢ pos 0 → IsOf (c ∷ []) x
one_id c id (inl same) x (inl e) ne = inl (sym same ∙ e)
one_id c id (inr none) x (inl e) ne = absurd (ne (sym e ∙ none))
one_id c id which x (inr none) ne = absurd none

-- ---- getMore

names_reader : (r : Reader) (command : List ℕ) (space : Space) → r.cursor ≢ pos 0 → asked command ≡ asks_more r.cursor space → NamesOwn (owner_of_reader r) (asked command)
names_reader r command space nz is x names =
    let same : r.cursor ≡ x = subst (λ (a : Asked). Names a x) is names in
    (inl same, λ e. nz (same ∙ e))

module _ (calls : List Call) (call : Call) (r : Reader) (place : Option ℕ) (space : Space) (is : r.doing ≡ still) (nz : r.cursor ≢ pos 0) (asks : asked call.command ≡ asks_more r.cursor space) (last : place ≡ Some (length calls)) (k : KnowsRead calls r) where
  sent_some : (history : List Step) (p : ℕ) (b : BackTo calls call history p) → call.position ≡ Some p → (position : ℕ) (f : FactsOf calls b.before r position) → MayBeFetched (calls ++ call ∷ []) history r.cursor f.left place
  sent_some history p b placed position f =
      let given : GivenTo calls b.before r.cursor = k.owned.given b.before b.legal b.stands r.cursor (inl refl) nz in
      let there : slice_get history p ≡ Some b.step = ap (λ (h : List Step). slice_get h p) b.whole ∙ subst (λ (n : ℕ). slice_get (b.before ++ b.step ∷ b.rest) n ≡ Some b.step) b.place (get_seam b.before b.rest b.step) in
      let tells = fetch_tells calls call history p b r.cursor f.left given nz (hand_of calls b.before r position still is f) space asks in
      record {
        came = λ q step came.
            let same = same_step calls call history place p q step b last placed came in
            record {
              space = space;
              asks = ap (λ (s : Step). asked s.command) (sym same.1) ∙ ap asked b.command ∙ asks;
              tells = subst (λ (s : Step). AfterFetch (state_of history) r.cursor f.left (told_at s)) same.1 tells;
            };
        never = λ none. absurd (none p b.step (length calls, last, record { call = call; found = get_seam calls [] call; placed = placed; there = there }));
      }

  sent_none : (history : List Step) → call.position ≡ None → (position : ℕ) (f : FactsOf calls history r position) → MayBeFetched (calls ++ call ∷ []) history r.cursor f.left place
  sent_none history none position f =
      record {
        came = λ q step came. let bad : None ≡ Some q = sym none ∙ at_last calls call history place q step last came in absurd cc;
        never = λ nothing. hand_of calls history r position still is f;
      }

-- A getMore of the cursor was sent.
pub fetch_sent : (log log' : link.LogTold) (r : Reader) (place : Option ℕ) (command : List ℕ) (space : Space) (seen : Sight) → r.doing ≡ still → r.cursor ≢ pos 0 → asked command ≡ asks_more r.cursor space → Adds log log' command seen → IsNext log place
    → ReadMoved log log' r (doing_so r (fetching place))
fetch_sent log log' r place command space seen is nz asks adds at calls told_log =
    let add = adds calls told_log in
    let call : Call = record { command = command; position = add.0; seen = seen } in
    let last = at calls told_log in
    let sends : Sends calls (owner_of_reader r) (owner_of_reader (doing_so r (fetching place))) = record { ids = λ x of ne. of; last = λ k of. waits_last calls place last k of } in (
      calls ++ call ∷ [],
      add.1,
      record {
        knows = λ k. reader_added calls call r (fetching place) (holds_added calls call (owner_of_reader r) (owner_of_reader (doing_so r (fetching place))) sends k.owned) k
            (sent_some calls call r place space is nz asks last k) (sent_none calls call r place space is nz asks last k);
        passes = λ k. passes_added calls call (owner_of_reader r) (owner_of_reader (doing_so r (fetching place))) (names_reader r command space nz asks) sends k.owned;
      },
    )

-- the reader with a batch of its cursor
abbrev pub heard_by : Reader → Batch → Reader
heard_by r batch = record r { doing = still; cursor = batch.id; ahead = r.ahead ++ batch.events }

next_or_none : (s : State) (id : ℤ) (left : List Fields) (next : ℤ) (documents : List Fields) → GivesNext s id left next documents → (next ≡ id) ⊎ (next ≡ pos 0)
next_or_none s id left next documents g = elim g.same [ inl same ↦ inl same | inr none ↦ inr none.0 ]

ended_by : (id next : ℤ) (behind : List Fields) → id ≢ pos 0 → (next ≡ id) ⊎ ((next ≡ pos 0) × (behind ≡ [])) → next ≡ pos 0 → behind ≡ []
ended_by id next behind nz (inl same) zero_is = absurd (nz (sym same ∙ zero_is))
ended_by id next behind nz (inr none) zero_is = none.1

module _ (calls : List Call) (k : ℕ) (call : Call) (r : Reader) (place : Option ℕ) (bytes : List ℕ) (batch : Batch) (is : r.doing ≡ fetching place) (nz : r.cursor ≢ pos 0) (at : place ≡ Some k) (found : slice_get calls k ≡ Some call) (reads : Reads bytes batch) where
  told_next : (history : List Step) (position : ℕ) (f : FactsOf calls history r position) → HeardStep calls history k bytes call → GivesNext (state_of history) r.cursor f.left batch.id batch.events
  told_next history position f h =
      let m : MayBeFetched calls history r.cursor f.left place = hand_of calls history r position (fetching place) is f in
      let a = m.came h.position h.step (k, at, h.took) in
      subst (λ (t : Told). AfterFetch (state_of history) r.cursor f.left t) (giving_heard h.step r.cursor a.space bytes batch a.asks h.fits reads) a.tells

  facts_heard : (history : List Step) (position : ℕ) → FactsOf calls history r position → Stands (see k (reply bytes) calls) history → FactsOf (see k (reply bytes) calls) history (heard_by r batch) position
  facts_heard history position f stands' =
      let g = told_next history position f (heard_at k bytes calls call history found stands') in
      let p : Portion = record { documents = batch.events; lost = false } in
      let none : losses_in (f.portions ++ p ∷ []) ≡ losses_in f.portions + 0 = losses_push f.portions p in
      record {
        all = f.all;
        fixed = f.fixed;
        portions = f.portions ++ p ∷ [];
        left = g.behind;
        cut = cut_further f.all f.portions p f.left g.behind f.cut g.these;
        these = kept_push f.portions p ∙ ap (λ (l : List Fields). l ++ batch.events) f.these ∙ append_assoc r.given r.ahead batch.events;
        few = omega (arith, none, f.few);
        hand = holds_or_none (state_of history) r.cursor batch.id g.behind (next_or_none (state_of history) r.cursor f.left batch.id batch.events g) g.holds;
        ends = λ zero_is. inl (ended_by r.cursor batch.id g.behind nz g.same zero_is);
      }

-- The batch of a getMore came.
pub fetch_heard : (log log' : link.LogTold) (r : Reader) (place : Option ℕ) (bytes : List ℕ) (batch : Batch) → r.doing ≡ fetching place → r.cursor ≢ pos 0 → Reads bytes batch → Sees log log' place (reply bytes) → ReadMoved log log' r (heard_by r batch)
fetch_heard log log' r place bytes batch is nz reads sees calls told_log =
    let s = sees calls told_log in
    let which = λ (k : KnowsRead calls r) (history : List Step) (legal : IsLegal history) (stands : Stands calls history) (stands' : Stands (see s.0 (reply bytes) calls) history).
    let f = reader_facts_in calls r k history legal stands in
    next_or_none (state_of history) r.cursor f.1.left batch.id batch.events (told_next calls s.0 s.1 r place bytes batch is nz s.2 s.3 reads history f.0 f.1 (heard_at s.0 bytes calls s.1 history s.3 stands')) in (
      see s.0 (reply bytes) calls,
      s.5,
      reader_seen s.0 (reply bytes) calls s.1 r (heard_by r batch) s.3 s.4 (λ m of. of) refl refl
          (λ k history legal stands stands' x owns. owns_from calls (see s.0 (reply bytes) calls) history (owner_of_reader r) (owner_of_reader (heard_by r batch)) (λ m of. of) (one_id r.cursor batch.id (which k history legal stands stands')) x owns)
          (λ k history legal stands stands' x of ne. seen_still s.0 (reply bytes) calls s.1 (owner_of_reader r) s.3 s.4 k.owned history legal stands x (one_id r.cursor batch.id (which k history legal stands stands') x of ne) ne)
          (λ k history legal stands stands' position f. facts_heard calls s.0 s.1 r place bytes batch is nz s.2 s.3 reads history position f stands'),
    )

-- ---- a getMore that failed

-- the reader that may have lost a batch; the server holds its cursor no more where it refused so
abbrev pub lost_by : Reader → ℤ → Bool → Reader
lost_by r cursor refused = record r { doing = still; cursor = cursor; losses = r.losses + 1; refused = refused }

abbrev pub KeepsOrEnds : Reader → ℤ → Bool → Type 0
KeepsOrEnds r cursor refused = (cursor ≡ r.cursor) ⊎ ((cursor ≡ pos 0) × (refused ≡ true))

kept_or_none : (r : Reader) (cursor : ℤ) (refused : Bool) → KeepsOrEnds r cursor refused → (cursor ≡ r.cursor) ⊎ (cursor ≡ pos 0)
kept_or_none r cursor refused (inl same) = inl same
kept_or_none r cursor refused (inr none) = inr none.0

ends_refused : (r : Reader) (cursor : ℤ) (refused : Bool) → r.cursor ≢ pos 0 → KeepsOrEnds r cursor refused → cursor ≡ pos 0 → refused ≡ true
ends_refused r cursor refused nz (inl same) zero_is = absurd (nz (sym same ∙ zero_is))
ends_refused r cursor refused nz (inr none) zero_is = none.1

-- An answer to its getMore came, whatever it was.
pub fetch_lost : (log log' : link.LogTold) (r : Reader) (place : Option ℕ) (seen : Sight) (cursor : ℤ) (refused : Bool) → r.doing ≡ fetching place → r.cursor ≢ pos 0 → KeepsOrEnds r cursor refused → Sees log log' place seen → ReadMoved log log' r (lost_by r cursor refused)
fetch_lost log log' r place seen cursor refused is nz which sees calls told_log =
    let s = sees calls told_log in
    let ids = one_id r.cursor cursor (kept_or_none r cursor refused which) in (
      see s.0 seen calls,
      s.5,
      reader_seen s.0 seen calls s.1 r (lost_by r cursor refused) s.3 s.4 (λ m of. of) refl refl
          (λ k history legal stands stands' x owns. owns_from calls (see s.0 seen calls) history (owner_of_reader r) (owner_of_reader (lost_by r cursor refused)) (λ m of. of) ids x owns)
          (λ k history legal stands stands' x of ne. seen_still s.0 seen calls s.1 (owner_of_reader r) s.3 s.4 k.owned history legal stands x (ids x of ne) ne)
          (λ k history legal stands stands' position f.
          let l = lost_in calls history r.cursor f.all f.portions f.left place s.0 s.1 s.1.position s.2 s.3 refl stands f.cut (hand_of calls history r position (fetching place) is f) in
          record {
            all = f.all;
            fixed = f.fixed;
            portions = l.with_lost;
            left = l.behind;
            cut = l.cut;
            these = l.kept ∙ f.these;
            few = omega (arith, l.few, f.few);
            hand = holds_or_none (state_of history) r.cursor cursor l.behind (kept_or_none r cursor refused which) l.holds;
            ends = λ zero_is. inr (inr (ends_refused r cursor refused nz which zero_is));
          }),
    )

-- It was not sent for want of memory.
pub fetch_unsent : (log log' : link.LogTold) (r : Reader) (refused : Bool) → r.doing ≡ still → r.cursor ≢ pos 0 → log' ≡ log → ReadMoved log log' r (lost_by r r.cursor refused)
fetch_unsent log log' r refused is nz same calls told_log =
    let passes = λ (k : KnowsRead calls r). passes_here calls (owner_of_reader r) (owner_of_reader (lost_by r r.cursor refused)) (λ m of. of) (λ x of ne. of) k.owned in (
      calls,
      same ∙ told_log,
      record {
        knows = λ k. record {
          owned = (passes k).holds;
          opened = record { call = k.opened.call; bytes = k.opened.bytes; found = k.opened.found; queries = k.opened.queries; heard = k.opened.heard };
          facts = λ history legal stands position placed.
              let f = k.facts history legal stands position placed in
              record {
                all = f.all;
                fixed = f.fixed;
                portions = f.portions;
                left = f.left;
                cut = f.cut;
                these = f.these;
                few = omega (arith, f.few);
                hand = hand_of calls history r position still is f;
                ends = λ zero_is. absurd (nz zero_is);
              };
        };
        passes = passes;
      },
    )

quiet_by : (d : Fetching) → d ≡ still → (m : ℕ) → IsOf (coming_to d) (Some m) → ⊥
quiet_by still is m of = of
quiet_by (fetching place) is m of = absurd cc

-- The reply is none that a server may give: whatever is kept of it, in no legal history does the log stand.
pub fetch_garbled : (log log' : link.LogTold) (r r' : Reader) (place : Option ℕ) (bytes : List ℕ) → r.doing ≡ fetching place → ((space : Space) → told (asks_more r.cursor space) bytes ≡ garbled) → r'.doing ≡ still → r'.opened ≡ r.opened → r'.query ≡ r.query → Sees log log' place (reply bytes) → ReadMoved log log' r r'
fetch_garbled log log' r r' place bytes is spoiled rests at same sees calls told_log =
    let s = sees calls told_log in
    let impossible = λ (history : List Step) (position : ℕ) (f : FactsOf calls history r position) (stands' : Stands (see s.0 (reply bytes) calls) history).
    never s.0 s.1 s.2 history position f (heard_at s.0 bytes calls s.1 history s.3 stands') in
    let impossible_in = λ (k : KnowsRead calls r) (history : List Step) (legal : IsLegal history) (stands : Stands calls history) (stands' : Stands (see s.0 (reply bytes) calls) history).
    let f = reader_facts_in calls r k history legal stands in
    impossible history f.0 f.1 stands' in (
      see s.0 (reply bytes) calls,
      s.5,
      reader_seen s.0 (reply bytes) calls s.1 r r' s.3 s.4 (quiet_by r'.doing rests) at same
          (λ k history legal stands stands' x owns. absurd (impossible_in k history legal stands stands'))
          (λ k history legal stands stands' x of ne. absurd (impossible_in k history legal stands stands'))
          (λ k history legal stands stands' position f. absurd (impossible history position f stands')),
    )
  where
    never : (n : ℕ) (call : Call) → place ≡ Some n → (history : List Step) (position : ℕ) → FactsOf calls history r position → HeardStep calls history n bytes call → ⊥
    never n call there history position f h =
        let m : MayBeFetched calls history r.cursor f.left place = hand_of calls history r position (fetching place) is f in
        let a = m.came h.position h.step (n, there, h.took) in
        subst (λ (t : Told). AfterFetch (state_of history) r.cursor f.left t) (told_heard h.step bytes (asks_more r.cursor a.space) a.asks h.fits ∙ spoiled a.space) a.tells

-- ---- killCursors

names_killed : (r : Reader) (command : List ℕ) → r.cursor ≢ pos 0 → asked command ≡ asks_kill (r.cursor ∷ []) → NamesOwn (owner_of_reader r) (asked command)
names_killed r command nz is x names = elim (kill_names command (r.cursor ∷ []) x is names) [ inl e ↦ (inl e, λ z. nz (e ∙ z)) | inr none ↦ absurd none ]

-- The killing of its cursor was sent.
pub fetch_killed : (log log' : link.LogTold) (r : Reader) (command : List ℕ) (seen : Sight) → r.doing ≡ still → r.cursor ≢ pos 0 → asked command ≡ asks_kill (r.cursor ∷ []) → Adds log log' command seen → ReadMoved log log' r (doing_so r still)
fetch_killed log log' r command seen is nz asks adds calls told_log =
    let add = adds calls told_log in
    let call : Call = record { command = command; position = add.0; seen = seen } in
    let sends : Sends calls (owner_of_reader r) (owner_of_reader (doing_so r still)) = record { ids = λ x of ne. of; last = λ k of. absurd of } in (
      calls ++ call ∷ [],
      add.1,
      record {
        knows = λ k. reader_added calls call r still (holds_added calls call (owner_of_reader r) (owner_of_reader (doing_so r still)) sends k.owned) k
            (λ history p b placed position f. kill_leaves calls call history p b r.cursor f.left (k.owned.given b.before b.legal b.stands r.cursor (inl refl) nz) nz (hand_of calls b.before r position still is f) asks)
            (λ history none position f. hand_of calls history r position still is f);
        passes = λ k. passes_added calls call (owner_of_reader r) (owner_of_reader (doing_so r still)) (names_killed r command nz asks) sends k.owned;
      },
    )

-- Its answer came.
pub kill_answered : (log log' : link.LogTold) (r : Reader) (place : Option ℕ) (seen : Sight) → r.doing ≡ still → Sees log log' place seen → ReadMoved log log' r (doing_so r still)
kill_answered log log' r place seen is sees calls told_log =
    let s = sees calls told_log in (
      see s.0 seen calls,
      s.5,
      reader_seen s.0 seen calls s.1 r (doing_so r still) s.3 s.4 (λ m of. of) refl refl
          (λ k history legal stands stands' x owns. owns_from calls (see s.0 seen calls) history (owner_of_reader r) (owner_of_reader (doing_so r still)) (λ m of. of) (λ y of ne. of) x owns)
          (λ k history legal stands stands' x of ne. seen_still s.0 seen calls s.1 (owner_of_reader r) s.3 s.4 k.owned history legal stands x of ne)
          (λ k history legal stands stands' position f. record { all = f.all; fixed = f.fixed; portions = f.portions; left = f.left; cut = f.cut; these = f.these; few = f.few; hand = hand_of calls history r position still is f; ends = f.ends }),
    )

-- ---- what is handed out

-- Documents that were received are handed out.
pub handed_out : (log log' : link.LogTold) (r : Reader) (documents behind : List Fields) → r.ahead ≡ documents ++ behind → log' ≡ log → ReadMoved log log' r (record r { given = r.given ++ documents; ahead = behind })
handed_out log log' r documents behind these same calls told_log = (
  calls,
  same ∙ told_log,
  record {
    knows = λ k. record {
      owned = k.owned;
      opened = record { call = k.opened.call; bytes = k.opened.bytes; found = k.opened.found; queries = k.opened.queries; heard = k.opened.heard };
      facts = λ history legal stands position placed.
          let f = k.facts history legal stands position placed in
          record {
            all = f.all;
            fixed = f.fixed;
            portions = f.portions;
            left = f.left;
            cut = f.cut;
            these = f.these ∙ ap (λ (l : List Fields). r.given ++ l) these ∙ sym (append_assoc r.given documents behind);
            few = f.few;
            hand = f.hand;
            ends = f.ends;
          };
    };
    passes = λ k. passes_same calls (owner_of_reader r) k.owned;
  },
)
