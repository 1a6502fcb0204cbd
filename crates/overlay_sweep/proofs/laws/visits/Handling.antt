-- A handler over a list of visits, part by part.
use Rattle.std.proofs.Common.{◌≡◌, ap, refl, ◌∙◌, Result, Ok, Err}
use Rattle.std.specs.Prelude.{IfErr}
use Rattle.std.specs.Result.{IsErrAnd}
use Rattle.std.specs.Prelude.{true, false, not, List, [], ◌∷◌, ◌++◌, Option, Some, None}
use Rattle.std.specs.List.{AllByRecursion}
use Rattle.std.proofs.lemmas.Bool.{or_right}
use Rattle.overlay_base.specs.Windings.{is_count_in_range}
use Rattle.overlay_base.specs.Segments.{WholeSegment}
use Rattle.overlay_sweep.specs.ChainWindings.{top}
use Rattle.overlay_sweep.specs.Sweep.{Visit, whole_of, handled, visited, visits_leave_range}

-- what is said of the fault that a call passes on
pub refused_as : {A E : Type 0} (r : Result A E) (P Q : E → Type 0) → IsErrAnd r P → ((e : E) → P e → Q e) → IfErr r Q
refused_as (Ok x) P Q h f = tt
refused_as (Err e) P Q h f = f e h

module _ {D H O : Type 0} (handle : H → Visit D → H × Option O) (finalize : H → O) where
  -- the handler goes over these visits, breaks at none of them, and is another one then
  abbrev pub IsHandledTo : H → List (Visit D) → H → Type 0
  IsHandledTo h [] last = h ≡ last
  IsHandledTo h (v ∷ vs) last = ((handle h v).1 ≡ None) × IsHandledTo (handle h v).0 vs last

  pub IsHandledTo-more : (h last : H) (vs : List (Visit D)) (v : Visit D) → IsHandledTo h vs last → (handle last v).1 ≡ None → IsHandledTo h (vs ++ v ∷ []) (handle last v).0
  IsHandledTo-more h last [] v e n = (ap (λ g. (handle g v).1) e ∙ n, ap (λ g. (handle g v).0) e)
  IsHandledTo-more h last (u ∷ us) v t n = (t.0, IsHandledTo-more (handle h u).0 last us v t.1 n)

  pub handled_after : (h last : H) (vs rest : List (Visit D)) → IsHandledTo h vs last → handled handle finalize h (vs ++ rest) ≡ handled handle finalize last rest
  unfolding handled
  handled_after h last [] rest e = ap (λ g. handled handle finalize g rest) e
  handled_after h last (v ∷ vs) rest t = rw t.0 (handled_after (handle h v).0 last vs rest t.1)

  pub visited_after : (h last : H) (vs rest : List (Visit D)) → IsHandledTo h vs last → visited handle h (vs ++ rest) ≡ vs ++ visited handle last rest
  unfolding visited
  visited_after h last [] rest e = ap (λ g. visited handle g rest) e
  visited_after h last (v ∷ vs) rest t = rw t.0 (ap (λ l. v ∷ l) (visited_after (handle h v).0 last vs rest t.1))

  pub handled_break : (h : H) (v : Visit D) (rest : List (Visit D)) (answer : O) → (handle h v).1 ≡ Some answer → handled handle finalize h (v ∷ rest) ≡ answer
  unfolding handled
  handled_break h v rest answer e = rw (e, handled) refl

  pub visited_break : (h : H) (v : Visit D) (rest : List (Visit D)) (answer : O) → (handle h v).1 ≡ Some answer → visited handle h (v ∷ rest) ≡ v ∷ []
  unfolding visited
  visited_break h v rest answer e = rw (e, visited) refl

  pub handled_end : (h : H) → handled handle finalize h [] ≡ finalize h
  unfolding handled
  handled_end h = refl

  visited_first : (h : H) (v : Visit D) (rest : List (Visit D)) (next : Option O) → (handle h v).1 ≡ next → (tail : List (Visit D)) × (visited handle h (v ∷ rest) ≡ v ∷ tail)
  unfolding visited
  visited_first h v rest (Some answer) e = ([], rw (e, visited) refl)
  visited_first h v rest None e = (visited handle (handle h v).0 rest, rw (e, visited) refl)

  module _ (xs : List WholeSegment) where
    abbrev pub HasTopInRange : Visit D → Type 0
    HasTopInRange v = is_count_in_range (top xs (whole_of v.segment)) ≡ true

    stay_in_range : (vs rest : List (Visit D)) → AllByRecursion HasTopInRange vs → visits_leave_range xs (vs ++ rest) ≡ visits_leave_range xs rest
    unfolding visits_leave_range
    stay_in_range [] rest a = refl
    stay_in_range (v ∷ vs) rest a = rw a.0 (stay_in_range vs rest a.1)

    -- no top was too large before the handler's result, nor at it
    pub in_range_at_break : (h last : H) (vs rest : List (Visit D)) (v : Visit D) (answer : O) → IsHandledTo h vs last → AllByRecursion HasTopInRange vs → HasTopInRange v → (handle last v).1 ≡ Some answer →
        visits_leave_range xs (visited handle h (vs ++ v ∷ rest)) ≡ false
    unfolding visits_leave_range
    in_range_at_break h last vs rest v answer t a r e =
        ap (visits_leave_range xs) (visited_after h last vs (v ∷ rest) t ∙ ap (λ l. vs ++ l) (visited_break last v rest answer e)) ∙ stay_in_range vs (v ∷ []) a ∙ rw r refl

    pub in_range_at_end : (h last : H) (vs : List (Visit D)) → IsHandledTo h vs last → AllByRecursion HasTopInRange vs → visits_leave_range xs (visited handle h (vs ++ [])) ≡ false
    unfolding visits_leave_range visited
    in_range_at_end h last vs t a =
        ap (visits_leave_range xs) (visited_after h last vs [] t) ∙ stay_in_range vs [] a

    leaves_in : (v : Visit D) (us tail : List (Visit D)) → is_count_in_range (top xs (whole_of v.segment)) ≡ false → visits_leave_range xs (us ++ v ∷ tail) ≡ true
    unfolding visits_leave_range
    leaves_in v [] tail f = rw f refl
    leaves_in v (u ∷ us) tail f = or_right (not (is_count_in_range (top xs (whole_of u.segment)))) _ (leaves_in v us tail f)

    -- a top that is too large is that of a visit
    pub leaves_range_at : (h last : H) (vs rest : List (Visit D)) (v : Visit D) → IsHandledTo h vs last → is_count_in_range (top xs (whole_of v.segment)) ≡ false → visits_leave_range xs (visited handle h (vs ++ v ∷ rest)) ≡ true
    leaves_range_at h last vs rest v t f =
        let first = visited_first last v rest (handle last v).1 refl in
        ap (visits_leave_range xs) (visited_after h last vs (v ∷ rest) t ∙ ap (λ l. vs ++ l) first.1) ∙ leaves_in v vs first.0 f
