use Rattle.std.proofs.Common.{◌∙◌, ◌++◌, ℕ, List, sym, ap, subst, take, take_all}
use Rattle.std.specs.Prelude.{Contains}
use Rattle.std.specs.List.Sorted.{IsStrictlyIncreasing}
use Rattle.std.proofs.Math.Dec.{eqb}
use Rattle.std.proofs.lemmas.List.{append-nil}
use Rattle.std.proofs.lemmas.List.Filters.{dedup_is}
use Rattle.std.proofs.lemmas.List.Kept.{Contains-dedup_nat, Contains-from_dedup}
use Rattle.std.proofs.lemmas.List.Sorted.{Contains-permutation, IsPermutation-sym}
use Rattle.std.proofs.lemmas.Map.Keys.{IsStrictlyIncreasing-dedup}
use Rattle.overlay_geometry.specs.RangeOf.{rect_of}
use Rattle.overlay_relations.specs.steps.Columns.{AreAround, members_of, numbers_meeting}
use Rattle.overlay_relations.specs.declared.columns.Column.{Column}
use Rattle.overlay_relations.proofs.laws.Columns.{next_members, numbers-append, numbers-none}
use Rattle.overlay_relations.proofs.columns.find_meeting.Goals as goal
use Rattle.overlay_relations.proofs.columns.find_meeting.Goals.{then-is_intersect_border_include+in_ok-add_meeting, else-is_intersect_border_include}

pub loop-column-preserved : goal.loop-column-preserved
loop-column-preserved g c =
    let whole = g.I.OverlayInt.whole in
    let r = rect_of whole c.args.bounds.now in
    let xs = c.args.columns.now in
    let i = c.loop-column.column-index in
    let column = c.column-item.result in
    let before = members_of (take i xs) in
    let more = ap (numbers_meeting whole r) (next_members whole xs i column c.loop-column-test.true c.column-item.is) ∙ numbers-append whole r before column.members.items in
    elim c.if-is_intersect_border_include.branch [
      | then-is_intersect_border_include+in_ok-add_meeting w ↦
          let added = rw w.deref.ensures.value at w.in_ok-add_meeting.ensures in
          ap (λ v. v.items) w.numbers-is ∙ added ∙ ap (λ (l : List ℕ). l ++ numbers_meeting whole r column.members.items) c.loop-column.invariant ∙ sym more
      | else-is_intersect_border_include w ↦
          let around = subst (AreAround whole) (sym c.column-item.is) (c.requires.around i column c.loop-column-test.true) in
          let none = numbers-none whole r column around (sym c.is_intersect_border_include.ensures ∙ w.if-is_intersect_border_include.false) in
          ap (λ v. v.items) w.numbers-is ∙ c.loop-column.invariant ∙ sym (more ∙ ap (λ (l : List ℕ). numbers_meeting whole r before ++ l) none ∙ append-nil (numbers_meeting whole r before))
    ]

pub returns-clause-increasing : goal.returns-clause-increasing
returns-clause-increasing g c =
    subst IsStrictlyIncreasing (sym (dedup_is eqb c.sort.new.self.items c.dedup.new.self.items c.dedup.ensures.filtered)) (IsStrictlyIncreasing-dedup c.sort.new.self.items c.in_ok-sort.ensures.sorted)

pub returns-clause-meeting : goal.returns-clause-meeting
returns-clause-meeting g c n =
    let whole = g.I.OverlayInt.whole in
    let r = rect_of whole c.args.bounds.now in
    let kept = dedup_is eqb c.sort.new.self.items c.dedup.new.self.items c.dedup.ensures.filtered in
    let all = c.loop-column.invariant ∙ ap (λ (l : List (Column _)). numbers_meeting whole r (members_of l)) (take_all c.loop-column.column-index c.args.columns.now c.loop-column-test.false) in (
      λ m. subst (λ (l : List ℕ). Contains l n) all
          (Contains-permutation c.sort.new.self.items c.loop-column.numbers.items n (IsPermutation-sym c.loop-column.numbers.items c.sort.new.self.items c.in_ok-sort.ensures.permutation)
          (Contains-from_dedup eqb c.sort.new.self.items n (subst (λ (l : List ℕ). Contains l n) kept m))),
      λ m. subst (λ (l : List ℕ). Contains l n) (sym kept)
          (Contains-dedup_nat c.sort.new.self.items n (Contains-permutation c.loop-column.numbers.items c.sort.new.self.items n c.in_ok-sort.ensures.permutation (subst (λ (l : List ℕ). Contains l n) (sym all) m))),
    )
