use Rattle.std.proofs.Common.{◌≡◌, ◌∙◌, ap, ap₂, sym, arith, true, ◌&&◌, ◌∷◌, ◌++◌, [], length, length-append, map, take, drop, List, ℕ}
use Rattle.std.specs.List.{list_all}
use Rattle.std.proofs.lemmas.List.{map-append, length-map, take_all}
use Rattle.std.proofs.lemmas.List.Folds.{list_all-append}
use Rattle.std.proofs.Math.Seq.{take-append_seam, drop-append_seam}
use Rattle.overlay_build.proofs.laws.graphs.LaidNodes.{first_is}
use Rattle.std.proofs.lemmas.Result.{IfOk-from_err}
use Rattle.overlay_build.proofs.build.listed_nodes.make_nodes.Goals as goal

pub split_at-requires : goal.split_at-requires
split_at-requires g c =
    let first = first_is c.requires.0 c.args.degrees.now c.args.indexes.now c.loop-degree.rest.now c.loop-degree.degree-index 0 c.requires.1 c.loop-degree-test.true (c.loop-degree.invariant.0 c.requires.0 c.requires.1).1 in
    let long = first.1 in
    let all = ap length first.2 ∙ length-append first.0 _ in
    omega (arith, long, all)

pub loop-degree-preserved : goal.loop-degree-preserved
loop-degree-preserved g c = (
  λ lists laid.
      (let before = c.loop-degree.invariant.0 lists laid in
      let first = first_is lists c.args.degrees.now c.args.indexes.now c.loop-degree.rest.now c.loop-degree.degree-index 0 laid c.loop-degree-test.true before.1 in
      let front = c.split_at.ensures.front ∙ ap₂ (λ n l. take n l) first.1 first.2 ∙ take-append_seam first.0 _ in
      let back = c.split_at.ensures.back ∙ ap₂ (λ n l. drop n l) first.1 first.2 ∙ drop-append_seam first.0 _ in (
        ap (map g.N.GraphNode.indexes) c.in_ok-push.ensures.items ∙ map-append g.N.GraphNode.indexes c.loop-degree.nodes.items _ ∙ ap₂ (λ a b. a ++ b ∷ []) before.0 (c.in_ok-with_indices.ensures.indexes ∙ front) ∙ sym first.3,
        back,
      )),
  ap (list_all g.N.GraphNode.is_canonical) c.in_ok-push.ensures.items ∙ list_all-append g.N.GraphNode.is_canonical c.loop-degree.nodes.items _ ∙ ap₂ (λ a b. a && (b && true)) c.loop-degree.invariant.1 c.in_ok-with_indices.ensures.form,
)

pub returns-in_err-reserve-clause-nodes : goal.returns-in_err-reserve-clause-nodes
returns-in_err-reserve-clause-nodes g c = IfOk-from_err c.from_residual.result _ c.from_residual.ensures.0

pub returns-in_err-reserve-clause-form : goal.returns-in_err-reserve-clause-form
returns-in_err-reserve-clause-form g c = IfOk-from_err c.from_residual.result _ c.from_residual.ensures.0

pub returns-in_err-with_indices-clause-nodes : goal.returns-in_err-with_indices-clause-nodes
returns-in_err-with_indices-clause-nodes g c = IfOk-from_err c.from_residual-in_err-with_indices.result _ c.from_residual-in_err-with_indices.ensures.0

pub returns-in_err-with_indices-clause-form : goal.returns-in_err-with_indices-clause-form
returns-in_err-with_indices-clause-form g c = IfOk-from_err c.from_residual-in_err-with_indices.result _ c.from_residual-in_err-with_indices.ensures.0

pub returns-in_err-push-clause-nodes : goal.returns-in_err-push-clause-nodes
returns-in_err-push-clause-nodes g c = IfOk-from_err c.from_residual-in_err-push.result _ c.from_residual-in_err-push.ensures.0

pub returns-in_err-push-clause-form : goal.returns-in_err-push-clause-form
returns-in_err-push-clause-form g c = IfOk-from_err c.from_residual-in_err-push.result _ c.from_residual-in_err-push.ensures.0

pub bounds-degrees-degree-index : goal.bounds-degrees-degree-index
bounds-degrees-degree-index g c = c.loop-degree-test.true

pub returns-clause-form : goal.returns-clause-form
returns-clause-form g c = c.loop-degree.invariant.1

pub returns-clause-nodes : goal.returns-clause-nodes
returns-clause-nodes g c = λ lists laid.
    let long = ap length laid.0 ∙ length-map lists (λ (l : List ℕ). length l) in
    (c.loop-degree.invariant.0 lists laid).0 ∙ take_all c.loop-degree.degree-index lists (rw (sym long) c.loop-degree-test.false)

pub loop-degree-init : goal.loop-degree-init
loop-degree-init g c =
    let none : c.reserve.new.self.items ≡ [] = grind arith in
    (λ lists laid. (ap (map g.N.GraphNode.indexes) none, laid.1), ap (list_all g.N.GraphNode.is_canonical) none)
