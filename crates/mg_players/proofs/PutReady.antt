-- A put that draws its ids is the same to others, and tells the same.
use Rattle.std.proofs.Common.{◌≡◌, ◌<◌, ◌≤◌, ◌+◌, ◌^◌, ℕ, ℤ, Bool, List, Result, Ok, Err, refl, sym, ap, ◌∙◌, subst, arith}
use Rattle.std.specs.Prelude.{if◌then◌else◌}
use Rattle.std.proofs.lemmas.Bool.{le-ltb, lt-ltb}
use Rattle.mg_link.specs.Link.{Awaited}
use Rattle.mg_link.specs.Log.{Call}
use Rattle.mg_server.specs.Owner.{Owner}
use Rattle.mg_chunks.specs.Sizes.{chunk_count_of}
use Rattle.mg_players.specs.Plays.{Places}
use Rattle.mg_players.specs.Progress.{PutAt, PutReady}
use Rattle.mg_players.specs.Putting.{Drew, DrewFor}
use Rattle.mg_players.specs.Puts.{BegunFor, PutKnows, PutStageHolds, PutTask, Supply, chunks_in, puts_ticket, total, where_counted}
use Rattle.mg_players.specs.Telling.{PutTells, put_number}
use Rattle.mg_players.specs.declared.put.Beginning.{Beginning}
use Rattle.mg_players.specs.declared.put.PutStage.{PutStage}
use Rattle.mg_players.specs.declared.put.PutStage.TheVariants as puts
use Rattle.mg_link.specs.declared.error.Error.{Error}

-- ---- how many ids it draws

-- one for each of its chunks
pub chunks_are : (chunk length : ℕ) (pieces : List (List ℕ)) → length ≡ total pieces → length < 2 ^ 64 → where_counted (chunk_count_of length chunk) ≡ chunks_in chunk pieces
chunks_are chunk length pieces same few =
    let counted : total pieces < 2 ^ 64 = omega (arith, same, few) in
    ap (λ (n : ℕ). where_counted (chunk_count_of n chunk)) same ∙ sym (ap (λ (b : Bool). if b then where_counted (chunk_count_of (total pieces) chunk) else 0) (lt-ltb (total pieces) (2 ^ 64) counted))

-- none where its bytes are not counted
pub chunks_none : (chunk : ℕ) (pieces : List (List ℕ)) → 2 ^ 64 ≤ total pieces → chunks_in chunk pieces ≡ 0
chunks_none chunk pieces many = ap (λ (b : Bool). if b then where_counted (chunk_count_of (total pieces) chunk) else 0) (le-ltb (total pieces) (2 ^ 64) many)

-- ---- its stage

-- it is supplied with the ids that it drew
begun_for : (ids : ℕ → List ℕ) (supply : Supply) (t : PutTask) (begun : Result Beginning Error) → ((k : ℕ) → supply.ids k ≡ ids k) → Drew ids t begun → BegunFor supply t begun
begun_for ids supply t (Ok begun) its drew = (
  drew.0,
  λ k within.
      let same : 0 + k ≡ k = omega arith in
      drew.1 k (subst (λ (m : ℕ). m < chunks_in t.chunk t.pieces) same within) ∙ sym (its k) ∙ ap supply.ids (sym same),
)
begun_for ids supply t (Err e) its drew = drew

module _ (ids : ℕ → List ℕ) (t : PutTask) where
  pub drew_ticket : (s s' : PutStage) → DrewFor ids t s s' → puts_ticket s' ≡ puts_ticket s
  drew_ticket puts.Undrawn puts.Undrawn drew = absurd drew
  drew_ticket puts.Undrawn (puts.Begins begun) drew = refl
  drew_ticket puts.Undrawn (puts.Goes going) drew = absurd drew
  drew_ticket puts.Undrawn (puts.Ended end) drew = absurd drew
  drew_ticket (puts.Begins begun) s' drew = ap puts_ticket drew
  drew_ticket (puts.Goes going) s' drew = ap puts_ticket drew
  drew_ticket (puts.Ended end) s' drew = ap puts_ticket drew

  pub drew_holds : (s s' : PutStage) (done count : ℕ) → DrewFor ids t s s' → PutStageHolds s done count → PutStageHolds s' done count
  drew_holds puts.Undrawn puts.Undrawn done count drew holds = absurd drew
  drew_holds puts.Undrawn (puts.Begins begun) done count drew holds = holds
  drew_holds puts.Undrawn (puts.Goes going) done count drew holds = absurd drew
  drew_holds puts.Undrawn (puts.Ended end) done count drew holds = absurd drew
  drew_holds (puts.Begins begun) s' done count drew holds = subst (λ (s : PutStage). PutStageHolds s done count) (sym drew) holds
  drew_holds (puts.Goes going) s' done count drew holds = subst (λ (s : PutStage). PutStageHolds s done count) (sym drew) holds
  drew_holds (puts.Ended end) s' done count drew holds = subst (λ (s : PutStage). PutStageHolds s done count) (sym drew) tt

  pub drew_knows : (awaited : Awaited) (calls : List Call) (s s' : PutStage) (o : Owner) → DrewFor ids t s s' → PutKnows awaited calls s o → PutKnows awaited calls s' o
  drew_knows awaited calls puts.Undrawn puts.Undrawn o drew knows = absurd drew
  drew_knows awaited calls puts.Undrawn (puts.Begins begun) o drew knows = knows
  drew_knows awaited calls puts.Undrawn (puts.Goes going) o drew knows = absurd drew
  drew_knows awaited calls puts.Undrawn (puts.Ended end) o drew knows = absurd drew
  drew_knows awaited calls (puts.Begins begun) s' o drew knows = subst (λ (s : PutStage). PutKnows awaited calls s o) (sym drew) knows
  drew_knows awaited calls (puts.Goes going) s' o drew knows = subst (λ (s : PutStage). PutKnows awaited calls s o) (sym drew) knows
  drew_knows awaited calls (puts.Ended end) s' o drew knows = subst (λ (s : PutStage). PutKnows awaited calls s o) (sym drew) knows

  pub drew_at : (calls : ℕ) (s s' : PutStage) (done count k : ℕ) (last : Bool) → DrewFor ids t s s' → PutAt calls s done count k last → PutReady calls s' done count k last
  drew_at calls puts.Undrawn puts.Undrawn done count k last drew at = absurd drew
  drew_at calls puts.Undrawn (puts.Begins begun) done count k last drew at = (at.0, at.1, at.2)
  drew_at calls puts.Undrawn (puts.Goes going) done count k last drew at = absurd drew
  drew_at calls puts.Undrawn (puts.Ended end) done count k last drew at = absurd drew
  drew_at calls (puts.Begins begun) s' done count k last drew at = absurd at
  drew_at calls (puts.Goes going) s' done count k last drew at = subst (λ (s : PutStage). PutReady calls s done count k last) (sym drew) at
  drew_at calls (puts.Ended end) s' done count k last drew at = subst (λ (s : PutStage). PutReady calls s done count k last) (sym drew) at.0

  pub drew_number : (s s' : PutStage) (done : ℕ) → DrewFor ids t s s' → put_number done s' ≡ put_number done s
  drew_number puts.Undrawn puts.Undrawn done drew = absurd drew
  drew_number puts.Undrawn (puts.Begins begun) done drew = refl
  drew_number puts.Undrawn (puts.Goes going) done drew = absurd drew
  drew_number puts.Undrawn (puts.Ended end) done drew = absurd drew
  drew_number (puts.Begins begun) s' done drew = ap (put_number done) drew
  drew_number (puts.Goes going) s' done drew = ap (put_number done) drew
  drew_number (puts.Ended end) s' done drew = ap (put_number done) drew

  pub drew_tells : (awaited : Awaited) (calls : List Call) (wire : ℤ) (q : Places) (supply : Supply) (done : ℕ) (s s' : PutStage) → (s ≡ puts.Undrawn → (k : ℕ) → supply.ids k ≡ ids k) → DrewFor ids t s s' → PutTells awaited calls wire q supply t done s → PutTells awaited calls wire q supply t done s'
  drew_tells awaited calls wire q supply done puts.Undrawn puts.Undrawn its drew told = absurd drew
  drew_tells awaited calls wire q supply done puts.Undrawn (puts.Begins begun) its drew told = (told.0, told.1, begun_for ids supply t begun (its refl) drew)
  drew_tells awaited calls wire q supply done puts.Undrawn (puts.Goes going) its drew told = absurd drew
  drew_tells awaited calls wire q supply done puts.Undrawn (puts.Ended end) its drew told = absurd drew
  drew_tells awaited calls wire q supply done (puts.Begins begun) s' its drew told = subst (PutTells awaited calls wire q supply t done) (sym drew) told
  drew_tells awaited calls wire q supply done (puts.Goes going) s' its drew told = subst (PutTells awaited calls wire q supply t done) (sym drew) told
  drew_tells awaited calls wire q supply done (puts.Ended end) s' its drew told = subst (PutTells awaited calls wire q supply t done) (sym drew) told
