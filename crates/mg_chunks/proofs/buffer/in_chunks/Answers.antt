use Rattle.std.proofs.Common.{◌++◌, ℕ, List, length, sym, ap, ◌∙◌, subst, arith, append_assoc}
use Rattle.std.specs.List.{concat}
use Rattle.std.specs.Prelude.{Vec}
use Rattle.std.specs.declared.alloc.Global.{Global}
use Rattle.mg_chunks.specs.Buffers.{AreFull, items_of}
use Rattle.mg_chunks.proofs.Buffering.{concat_more, cut_more}
use Rattle.mg_chunks.proofs.buffer.in_chunks.Goals as goal

pub chunks-init : goal.chunks-init
chunks-init c = record {
  these = ap (λ (fs : List (Vec ℕ Global)). concat (items_of fs) ++ c.args.bytes.now) c.new-full.ensures.items;
  full = subst (AreFull c.args.size) (sym c.new-full.ensures.items) tt;
}

pub chunks-preserved : goal.chunks-preserved
chunks-preserved c =
    let full = c.chunks.full.items in
    let v = c.in_ok-chunk.chunk in
    let behind = c.split_at.result.1.now in
    let more = c.in_ok-push_back.ensures.items in
    record {
      these = ap (λ (fs : List (Vec ℕ Global)). concat (items_of fs) ++ behind) more
          ∙ ap (λ (l : List ℕ). l ++ behind) (concat_more full v)
          ∙ append_assoc (concat (items_of full)) v.items behind
          ∙ ap (λ (l : List ℕ). concat (items_of full) ++ l) (ap (λ (l : List ℕ). l ++ behind) c.in_ok-chunk.ensures.items ∙ sym c.split_at.ensures.by_index.0)
          ∙ c.chunks.invariant.these;
      full = subst (AreFull c.args.size) (sym more) (cut_more c.args.size full v c.chunks.invariant.full (ap length c.in_ok-chunk.ensures.items ∙ c.split_at.ensures.front_len));
    }

pub chunks-smaller : goal.chunks-smaller
chunks-smaller c = let long = c.split_at.ensures.back_len in let some = c.requires in omega (arith, long, some)

pub returns : goal.returns
returns c = record {
  these = sym c.chunks.invariant.these ∙ ap (λ (l : List ℕ). concat (items_of c.chunks.full.items) ++ l) (sym c.in_ok-rest.ensures.items);
  full = c.chunks.invariant.full;
  short = let long = ap length c.in_ok-rest.ensures.items in let few = c.chunks-test.false in omega (arith, long, few);
}
