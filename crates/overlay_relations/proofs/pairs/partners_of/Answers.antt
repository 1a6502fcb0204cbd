use Rattle.std.proofs.Common.{◌≡◌, ◌∙◌, ◌↔◌, ◌+◌, ◌<◌, ◌++◌, [], ◌∷◌, ℕ, List, sym, ap, subst, get_or, length, take, take_all}
use Rattle.std.specs.Prelude.{⊤, Contains, true}
use Rattle.std.specs.List.{AllPairs}
use Rattle.std.specs.List.Sorted.{IsStrictlyIncreasing}
use Rattle.std.proofs.lemmas.Bool.{both_ways}
use Rattle.std.proofs.lemmas.List.{take_more, get_or_default}
use Rattle.std.proofs.lemmas.List.Elements.{Contains-get_or}
use Rattle.std.proofs.lemmas.List.Kept.{AllPairs-from_increasing}
use Rattle.overlay_geometry.specs.RangeOf.{rect_of}
use Rattle.overlay_geometry.proofs.laws.lists.Elements.{Has-from_Contains}
use Rattle.overlay_relations.specs.steps.Columns.{members_of}
use Rattle.overlay_relations.specs.Pairs.{Says}
use Rattle.overlay_relations.specs.declared.region.Region.{Region}
use Rattle.overlay_relations.proofs.laws.PairLists.{AreChosen, one_chosen, none_more_chosen, says_same, taken_in_order}
use Rattle.overlay_relations.proofs.laws.Partners.{number_below, partner_says, no_partner}
use Rattle.overlay_relations.proofs.pairs.partners_of.Goals as goal
use Rattle.overlay_relations.proofs.pairs.partners_of.Goals.{then-branch+in_ok-push, else-branch}

pub is_partner-requires-clause-other : goal.is_partner-requires-clause-other
is_partner-requires-clause-other g c =
    let near = c.in_ok-near.near.items in
    let i = c.loop-other.other-index in
    let r = rect_of g.I.OverlayInt.whole c.in-Some.bounds in
    let there = Contains-get_or near i 0 (subst (λ (l : List ℕ). i < length l) c.deref-other-items.ensures.value c.loop-other-test.true) in
    subst (λ (l : List ℕ). get_or l i 0 < length c.args.second.now) (sym c.deref-other-items.ensures.value)
    (number_below c.args.second.now (members_of c.args.columns.now) c.requires.boxes r (get_or near i 0) ((c.in_ok-near.ensures.meeting (get_or near i 0)).0 there))

pub loop-other-preserved : goal.loop-other-preserved
loop-other-preserved g c =
    let xs = c.deref-other-items.result.now in
    let i = c.loop-other.other-index in
    let j = get_or xs i 0 in
    let Q = λ (k : ℕ) (S : Type 0). (x y : Region _ _ _ _ _) → Says c.args.predicate (get_or c.args.first.now c.args.number x) (get_or c.args.second.now k y) S in
    let same = λ (k : ℕ) (P S : Type 0) (h : P ↔ S) (says : Q k P) (x y : Region _ _ _ _ _). says_same c.args.predicate c.args.second.now c.args.second.now (get_or c.args.first.now c.args.number x) (get_or c.args.second.now k y) P S h (says x y) in
    let ordered = AllPairs-from_increasing xs (subst IsStrictlyIncreasing (sym c.deref-other-items.ensures.value) c.in_ok-near.ensures.increasing) in
    let more : take (i + 1) xs ≡ take i xs ++ j ∷ [] = take_more xs i 0 c.loop-other-test.true in
    let before = subst (λ (l : List ℕ). AllPairs (λ x y. x < y) l) more (taken_in_order (λ x y. x < y) (i + 1) xs ordered) in
    elim c.if-branch.branch [
      | then-branch+in_ok-push w ↦
          let holds = λ (x y : Region _ _ _ _ _). says_same c.args.predicate c.args.second.now c.args.second.now (get_or c.args.first.now c.args.number x) (get_or c.args.second.now j y) (c.in_ok-is_partner.field-0 ≡ true) ⊤ (λ t. tt, λ t. w.if-branch.true) (c.in_ok-is_partner.ensures.partner x y) in
          subst (λ (l : List ℕ). AreChosen Q l c.if-branch.partners.items) (sym more)
          (subst (λ (l : List ℕ). AreChosen Q (take i xs ++ j ∷ []) l) (sym (ap (λ v. v.items) w.partners-is ∙ w.in_ok-push.ensures.items))
          (one_chosen Q same (take i xs) c.loop-other.partners.items j before c.loop-other.invariant holds))
      | else-branch w ↦
          let fails = λ (x y : Region _ _ _ _ _). says_same c.args.predicate c.args.second.now c.args.second.now (get_or c.args.first.now c.args.number x) (get_or c.args.second.now j y) (c.in_ok-is_partner.field-0 ≡ true) ⊥ (both_ways c.in_ok-is_partner.field-0 w.if-branch.false, λ f. absurd f) (c.in_ok-is_partner.ensures.partner x y) in
          subst (λ (l : List ℕ). AreChosen Q l c.if-branch.partners.items) (sym more)
          (subst (λ (l : List ℕ). AreChosen Q (take i xs ++ j ∷ []) l) (sym (ap (λ v. v.items) w.partners-is))
          (none_more_chosen Q same (take i xs) c.loop-other.partners.items j before c.loop-other.invariant fails))
    ]

pub returns-clause-numbered : goal.returns-clause-numbered
returns-clause-numbered g c k d l =
    let near = c.in_ok-near.near.items in
    let j = get_or c.loop-other.partners.items k d in
    let r = rect_of g.I.OverlayInt.whole c.in-Some.bounds in
    let all = take_all c.loop-other.other-index c.deref-other-items.result.now c.loop-other-test.false ∙ c.deref-other-items.ensures.value in
    let there = subst (λ (l : List ℕ). Contains l j) all (c.loop-other.invariant.among k d l) in
    number_below c.args.second.now (members_of c.args.columns.now) c.requires.boxes r j ((c.in_ok-near.ensures.meeting j).0 there)

pub returns-clause-exact : goal.returns-clause-exact
returns-clause-exact g c j x y l =
    let near = c.in_ok-near.near.items in
    let region = c.index-first-number.result in
    let bounds = c.in-Some.bounds in
    let Q = λ (k : ℕ) (S : Type 0). (x y : Region _ _ _ _ _) → Says c.args.predicate (get_or c.args.first.now c.args.number x) (get_or c.args.second.now k y) S in
    let all = take_all c.loop-other.other-index c.deref-other-items.result.now c.loop-other-test.false ∙ c.deref-other-items.ensures.value in
    let are = subst (λ (l : List ℕ). AreChosen Q l c.loop-other.partners.items) all c.loop-other.invariant in
    let is = ap (λ (r : Region _ _ _ _ _). r.bounds) (get_or_default c.args.first.now c.args.number x region c.requires.number ∙ sym c.index-first-number.is) ∙ sym c.bounds.ensures ∙ c.in-Some.is in
    partner_says c.args.second.now (members_of c.args.columns.now) c.requires.boxes c.args.predicate (get_or c.args.first.now c.args.number x) Q bounds is near c.loop-other.partners.items are
    c.in_ok-near.ensures.meeting j y l (λ z. get_or_default c.args.second.now j z y l) (λ q. q x y)

pub returns-in_default-clause-exact : goal.returns-in_default-clause-exact
returns-in_default-clause-exact g c j x y l =
    let first = get_or c.args.first.now c.args.number x in
    let none = ap (λ (r : Region _ _ _ _ _). r.bounds) (get_or_default c.args.first.now c.args.number x c.index-first-number.result c.requires.number ∙ sym c.index-first-number.is) ∙ sym c.bounds.ensures ∙ c.in_default.is in
    says_same c.args.predicate c.args.second.now c.args.second.now first (get_or c.args.second.now j y) ⊥ (Contains c.new-partners.result.items j)
    (λ f. absurd f, λ m. absurd (Has-from_Contains [] j (subst (λ (l : List ℕ). Contains l j) c.new-partners.ensures.items m)))
    (no_partner c.args.second.now (members_of c.args.columns.now) c.requires.boxes c.args.predicate first none y j)
