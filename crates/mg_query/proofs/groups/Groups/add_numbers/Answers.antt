use Rattle.std.proofs.Common.{sym, ◌∙◌}
use Rattle.std.specs.BTreeSet.{contains}
use Rattle.std.specs.List.{each_same}
use Rattle.std.specs.Ordering.{nat_cmp}
use Rattle.mg_query.proofs.Grouping.{is_forward, members_have}
use Rattle.mg_query.proofs.groups.Groups.add_numbers.Goals as goal

pub range-member-items-requires : goal.range-member-items-requires
range-member-items-requires c =
    let first = each_same c.args.key.now.items c.in_ok-clone.field-0.items c.in_ok-clone.ensures.cases.0 in
    let last = each_same c.args.key.now.items c.in_ok-clone-2.field-0.items c.in_ok-clone-2.ensures.cases.0 in
    is_forward c.in_ok-clone.field-0 c.in_ok-clone-2.field-0 c.args.end (first ∙ sym last)

pub loop-member-init : goal.loop-member-init
loop-member-init c =
    let first = each_same c.args.key.now.items c.in_ok-clone.field-0.items c.in_ok-clone.ensures.cases.0 in
    let last = each_same c.args.key.now.items c.in_ok-clone-2.field-0.items c.in_ok-clone-2.ensures.cases.0 in (
      λ h. h,
      λ m less is. members_have c.args.self.now c.args.key.now c.in_ok-clone.field-0 c.in_ok-clone-2.field-0 c.args.end m (contains nat_cmp c.args.numbers.now m) _ first last (c.into_iter-member-iterator.ensures.into_iter_gives ∙ c.range-member-items.ensures.between tt) less is,
      λ m h. h,
    )
