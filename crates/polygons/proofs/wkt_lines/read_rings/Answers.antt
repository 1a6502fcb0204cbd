use Rattle.std.proofs.Common.{rules, arith, ◌≡◌, ◌≤◌, ◌++◌, ◌∷◌, [], inl, inr, length, None, Some, subst}
use Rattle.std.proofs.lemmas.Grind.{common_steps}
use Rattle.std.proofs.lemmas.List.{map-append}
use Rattle.overlay_contours.specs.ContoursOf.{points_of, contours_of}
use Rattle.overlay_text.specs.Text.{words_of}
use Rattle.overlay_text.proofs.Results.{if_err}
use Rattle.polygons.specs.Wkt.{comma, WriteRing}
use Rattle.polygons.proofs.Items.{ring_is_one, ring_is_shorter, behind_more, no_item, no_mark}
use Rattle.polygons.proofs.wkt_lines.read_rings.Goals as goal

pub returns-in_err-read_ring-clause-stop : goal.returns-in_err-read_ring-clause-stop
returns-in_err-read_ring-clause-stop c =
    let left = words_of c.loop-rings.words.rest.now in
    if_err _ _ _ c.from_residual.ensures.1 (elim c.in_err-read_ring.ensures.stop [
      | inl memory ↦ inl memory
      | inr faulty ↦ inr (faulty.0, no_item WriteRing (words_of c.args.words.now.rest.now) left (contours_of (λ z. z) c.loop-rings.rings.items) c.loop-rings.invariant faulty.1)
    ])

pub returns-in_err-ok_or-clause-stop : goal.returns-in_err-ok_or-clause-stop
returns-in_err-ok_or-clause-stop c =
    let left = words_of c.loop-rings.words.rest.now in
    let no : c.is_end.result ≡ None = search rules in
    let none = rw no at c.is_end.ensures in
    if_err _ _ _ c.from_residual-in_err-ok_or.ensures.1 (inr (
      search rules,
      no_mark WriteRing (words_of c.args.words.now.rest.now) left (contours_of (λ z. z) c.loop-rings.rings.items) c.loop-rings.invariant
          ring_is_one (points_of (λ z. z) c.in_ok-read_ring.field-0.items) (words_of c.read_ring.new.words.rest.now) c.in_ok-read_ring.ensures.items none,
    ))

pub loop-rings-smaller : goal.loop-rings-smaller
loop-rings-smaller c =
    let left = words_of c.loop-rings.words.rest.now in
    let ends : c.is_end.result ≡ Some c.in_ok-ok_or.field-0 = search rules in
    let next = rw (ends, c.if-branch.false) at c.is_end.ensures in
    let short : length (comma ∷ words_of c.is_end.new.words.rest.now) ≤ length left =
    ring_is_shorter left (points_of (λ z. z) c.in_ok-read_ring.field-0.items) (comma ∷ words_of c.is_end.new.words.rest.now)
    (subst (WriteRing left (points_of (λ z. z) c.in_ok-read_ring.field-0.items)) next c.in_ok-read_ring.ensures.items) in
    omega (arith, short)

pub loop-rings-preserved : goal.loop-rings-preserved
loop-rings-preserved c =
    let left = words_of c.loop-rings.words.rest.now in
    let one = points_of (λ z. z) c.in_ok-read_ring.field-0.items in
    let done = contours_of (λ z. z) c.loop-rings.rings.items in
    let ends : c.is_end.result ≡ Some c.in_ok-ok_or.field-0 = search rules in
    let next = rw (ends, c.if-branch.false) at c.is_end.ensures in
    let pushed : contours_of (λ z. z) c.push.new.self.items ≡ done ++ one ∷ [] = grind (arith, common_steps, c.in_ok-push.ensures.items, map-append) in
    rw pushed (behind_more WriteRing (words_of c.args.words.now.rest.now) left done c.loop-rings.invariant ring_is_one one (words_of c.is_end.new.words.rest.now)
    (subst (WriteRing left one) next c.in_ok-read_ring.ensures.items))
