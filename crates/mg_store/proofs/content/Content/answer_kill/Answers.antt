use Rattle.std.proofs.Common.{◌≡◌, ℤ, true, false, Bool, cond, not, List, [], ◌∷◌, ◌++◌, Option, is_some, refl, sym, ap, ap₂, ◌∙◌, subst, append_assoc, append-nil, rules, to_z, of_z, w64}
use mir.Val.{SFits}
use Rattle.std.proofs.lemmas.Int.{to_z-of_z}
use Rattle.std.specs.Prelude.{◌||◌, ◌&&◌}
use Rattle.std.specs.BTreeMap.{get}
use Rattle.std.specs.BTreeSet.{contains}
use Rattle.std.specs.Ordering.{int_cmp, int_eq, is_eq}
use Rattle.mg_bson.specs.Tree.{int64}
use Rattle.mg_bson.specs.Find.{with_item}
use Rattle.mg_bson.specs.Raw.{items, items_left}
use Rattle.mg_server.specs.Rules.{is_id_among, is_killed, same_answer}
use Rattle.mg_query.specs.Asking.{ahead, ids_among}
use Rattle.mg_store.proofs.Holdings.{held_is, kill_settles}
use Rattle.mg_store.proofs.Killing.{Lists, among_push, killed_when, lists_end, lists_more}
use Rattle.mg_store.proofs.Maps.{int_test}
use Rattle.mg_store.proofs.content.Content.answer_kill.Goals as goal
use Rattle.mg_store.proofs.content.Content.answer_kill.Goals.{then-branch+then-contains_key+in_ok-put_item, else-branch+in_ok-put_item-2, else-branch-via-then-branch+else-contains_key, else-branch-via-else-branch}

pub ids-preserved-in_default-id_of : goal.ids-preserved-in_default-id_of
ids-preserved-in_default-id_of c =
    let rest : List ℤ = ids_among (items_left c.next.new.self) in
    let all : List ℤ = ids_among (items c.args.ids.now) in
    let here : ids_among (items_left c.ids.left) ≡ rest = ap ids_among c.in-Some.ensures ∙ ap (λ (o : Option ℤ). ahead o rest) (sym c.in_default-id_of.ensures) in
    record {
      lists = λ s given h.
          let l = c.ids.invariant.lists s given h in
          (subst (λ (r : List ℤ). Lists true s c.ids.killed c.ids.named.items r all) here l.0, subst (λ (r : List ℤ). Lists false s c.ids.not_found c.ids.named.items r all) here l.1);
      these = ap (λ (r : List ℤ). c.ids.named.items ++ r) (sym here) ∙ c.ids.invariant.these;
      before = c.ids.invariant.before;
    }

true_when : (b c : Bool) → b ≡ true → c ≡ true → true ≡ (b && c)
true_when true c e f = sym f
true_when false c e f = cc

false_first : (b c : Bool) → b ≡ false → false ≡ (b && c)
false_first true c e = cc
false_first false c e = refl

false_second : (b c : Bool) → c ≡ false → false ≡ (b && c)
false_second true c e = sym e
false_second false c e = refl

either : (b d : Bool) → cond b true d ≡ (b || d)
either true d = refl
either false d = refl

pub ids-preserved : goal.ids-preserved
ids-preserved c =
    let id : ℤ = c.in-Some-id_of.id in
    let rest : List ℤ = ids_among (items_left c.next.new.self) in
    let all : List ℤ = ids_among (items c.args.ids.now) in
    let named : List ℤ = c.ids.named.items in
    let here : ids_among (items_left c.ids.left) ≡ id ∷ rest = ap ids_among c.in-Some.ensures ∙ ap (λ (o : Option ℤ). ahead o rest) (sym c.in-Some-id_of.ensures) in
    let fits : SFits w64 id = search rules in
    let back : to_z w64 (of_z w64 id) ≡ id = to_z-of_z w64 id fits in
    let next : c.push.new.self.items ≡ named ++ id ∷ [] = c.in_ok-push.ensures.items ∙ ap (λ (x : ℤ). named ++ x ∷ []) back in
    let fresh : c.in_ok-insert.field-0 ≡ not (is_id_among id named) = c.in_ok-insert.ensures.added ∙ ap (λ (x : ℤ). not (contains int_cmp c.ids.before x)) back ∙ ap not (c.ids.invariant.before id) in
    record {
      lists = λ s given h.
          let l = c.ids.invariant.lists s given h in
          let a = subst (λ (r : List ℤ). Lists true s c.ids.killed named r all) here l.0 in
          let b = subst (λ (r : List ℤ). Lists false s c.ids.not_found named r all) here l.1 in
          let held : is_some (s.cursors id) ≡ is_some (get int_cmp c.args.self.now.cursors id) = held_is c.args.self.now s given id h in
          elim c.if-branch.branch [
            | then-branch+then-contains_key+in_ok-put_item w ↦
                let killed : is_killed s named id ≡ (c.in_ok-insert.field-0 && is_some (get int_cmp c.args.self.now.cursors id)) = killed_when s id named c.in_ok-insert.field-0 (is_some (get int_cmp c.args.self.now.cursors id)) fresh held in
                let yes : true ≡ is_killed s named id = true_when c.in_ok-insert.field-0 (is_some (get int_cmp c.args.self.now.cursors id)) w.if-branch.true (sym (w.contains_key.ensures ∙ ap (λ (x : ℤ). is_some (get int_cmp c.args.self.now.cursors x)) back) ∙ w.if-contains_key.true) ∙ sym killed in (
                  lists_more true true s c.ids.killed c.if-branch.killed named c.push.new.self.items rest all id (w.killed-is ∙ w.in_ok-put_item.ensures ∙ ap (λ (x : ℤ). with_item c.ids.killed (int64 x)) back) yes next a,
                  lists_more false false s c.ids.not_found c.if-branch.not_found named c.push.new.self.items rest all id w.not_found-is (ap (same_answer false) yes) next b,
                )
            | else-branch+in_ok-put_item-2 w ↦
                let killed : is_killed s named id ≡ (c.in_ok-insert.field-0 && is_some (get int_cmp c.args.self.now.cursors id)) = killed_when s id named c.in_ok-insert.field-0 (is_some (get int_cmp c.args.self.now.cursors id)) fresh held in
                let no : false ≡ is_killed s named id =
                elim w.else-branch.branch [
                  | else-branch-via-then-branch+else-contains_key u ↦ false_second c.in_ok-insert.field-0 (is_some (get int_cmp c.args.self.now.cursors id)) (sym (u.contains_key.ensures ∙ ap (λ (x : ℤ). is_some (get int_cmp c.args.self.now.cursors x)) back) ∙ u.if-contains_key.false) ∙ sym killed
                  | else-branch-via-else-branch u ↦ false_first c.in_ok-insert.field-0 (is_some (get int_cmp c.args.self.now.cursors id)) u.if-branch.false ∙ sym killed
                ] in (
                  lists_more true false s c.ids.killed c.if-branch.killed named c.push.new.self.items rest all id w.killed-is no next a,
                  lists_more false true s c.ids.not_found c.if-branch.not_found named c.push.new.self.items rest all id (w.not_found-is ∙ w.in_ok-put_item-2.ensures ∙ ap (λ (x : ℤ). with_item c.ids.not_found (int64 x)) back) (ap (same_answer false) no) next b,
                )
          ];
      these = ap (λ (l : List ℤ). l ++ rest) next ∙ append_assoc named (id ∷ []) rest ∙ ap (λ (r : List ℤ). named ++ r) (sym here) ∙ c.ids.invariant.these;
      before = λ q. c.in_ok-insert.ensures.updates.0 q ∙ ap (λ (x : ℤ). cond (is_eq (int_cmp x q)) true (contains int_cmp c.ids.before q)) back ∙ ap₂ (λ (b d : Bool). cond b true d) (int_test id q) (c.ids.invariant.before q) ∙ either (int_eq q id) (is_id_among q named) ∙ sym (among_push q id named) ∙ ap (is_id_among q) (sym next);
    }

pub returns : goal.returns
returns c s given h =
    let l = c.ids.invariant.lists s given h in
    let none : ids_among (items_left c.ids.left) ≡ [] = ap ids_among c.in_default.ensures.0 in
    kill_settles s given (ids_among (items c.args.ids.now)) c.ids.named c.ids.killed c.ids.not_found c.in_ok-document.document c.answered.result
    (lists_end true s c.ids.killed c.ids.named.items (ids_among (items_left c.ids.left)) (ids_among (items c.args.ids.now)) none l.0)
    (lists_end false s c.ids.not_found c.ids.named.items (ids_among (items_left c.ids.left)) (ids_among (items c.args.ids.now)) none l.1)
    (sym (append-nil c.ids.named.items) ∙ ap (λ (r : List ℤ). c.ids.named.items ++ r) (sym none) ∙ c.ids.invariant.these) c.in_ok-document.ensures c.answered.ensures
