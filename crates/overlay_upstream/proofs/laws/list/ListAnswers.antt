-- What a search in a list returns, and the list after a call.
use Rattle.std.proofs.Common.{◌≡◌, ap, ap₂, refl, sym, subst, ◌∙◌, arith, get_or}
use Rattle.std.specs.Prelude.{ℕ, suc, ◌+◌, ◌-◌, ◌<◌, ℤ, ◌≤ℤ◌, ◌<ℤ◌, Bool, true, false, if◌then◌else◌, List, [], ◌∷◌, ◌++◌, map, filter, take, drop, length, All}
use Rattle.std.specs.List.{take-map, drop-map}
use Rattle.std.proofs.lemmas.Bool.{both_ways}
use Rattle.std.proofs.lemmas.List.{length-map, map-append, map_more}
use Rattle.std.proofs.lemmas.List.Elements.{All-append}
use Rattle.overlay_base.specs.Segments.{WholeSegment}
use Rattle.overlay_geometry.proofs.laws.integers.Tests.{lt-test, lt_through}
use Rattle.overlay_geometry.proofs.laws.lists.Lists.{filter-map}
use Rattle.overlay_geometry.proofs.laws.lists.Lists as lists
use Rattle.overlay_sweep.specs.LiveRows.{IsScanList}
use Rattle.overlay_sweep.specs.steps.Positions.{IsPosition}
use Rattle.overlay_sweep.proofs.laws.live.ScanSums.{lasting}
use Rattle.overlay_sweep.proofs.laws.list.ListAnswers.{ends_later, row_empty}

-- ---- at a later x, and without any entry

pub list_empty : (x : ℤ) (ks : List WholeSegment) (least : ℤ) → ks ≡ [] → IsScanList x ks least
list_empty x ks least e = record { row = row_empty x ks e; least = subst (λ l. All (λ s. least ≤ℤ s.pair.b.x) l) (sym e) (λ k d h. absurd (omega (arith, h))) }

-- ---- what lasts of the entries

pub entries_kept : {E : Type 0} (f : E → WholeSegment) (x : ℤ) (old kept : List E) → kept ≡ filter (λ e. lasting x (f e)) old → map f kept ≡ filter (λ t. lasting x t) (map f old)
entries_kept f x old kept e = ap (map f) e ∙ sym (filter-map (λ t. lasting x t) f old)

pub position_kept : {E : Type 0} (f : E → WholeSegment) (items : List E) (before : ℕ → Bool) (at : ℕ) → IsPosition before (length items) at → IsPosition before (length (map f items)) at
position_kept f items before at = subst (λ n. IsPosition before n at) (sym (length-map items f))

-- ---- the least end

-- where none has ended, all are left
pub none_ended : {E : Type 0} (f : E → WholeSegment) (x least : ℤ) (items : List E) → x <ℤ least → All (λ s. least ≤ℤ s.pair.b.x) (map f items) → items ≡ filter (λ e. lasting x (f e)) items
none_ended f x least [] h a = refl
none_ended f x least (e ∷ es) h a =
    let first : least ≤ℤ (f e).pair.b.x = a 0 (f e) (omega arith) in
    rw (lt-test x (f e).pair.b.x (lt_through x least (f e).pair.b.x h first)) (ap (λ l. e ∷ l) (none_ended f x least es h (λ k d n. a (suc k) d (omega (arith, n)))))

-- one more of the code's entries
pub least_more : {E : Type 0} (f : E → WholeSegment) (items : List E) (i : ℕ) (entry : E) → i < length items → entry ≡ get_or items i entry → (least next : ℤ) → All (λ s. least ≤ℤ s.pair.b.x) (map f (take i items)) → next ≤ℤ least → next ≤ℤ (f entry).pair.b.x → All (λ s. next ≤ℤ s.pair.b.x) (map f (take (i + 1) items))
least_more f items i entry within at least next a h k =
    subst (λ l. All (λ s. next ≤ℤ s.pair.b.x) l) (sym (map_more f items i entry within ∙ ap (λ e. map f (take i items) ++ f e ∷ []) (sym at)))
    (All-append (λ s. next ≤ℤ s.pair.b.x) (map f (take i items)) (f entry ∷ []) (ends_later least next h (map f (take i items)) a) (λ j d n. let e : j ≡ 0 = omega (arith, n) in rw e k))

-- ---- an entry put in at its position

pub entries_placed : {E : Type 0} (f : E → WholeSegment) (items new : List E) (at : ℕ) (entry : E) (b : Bool) → b ≡ true → new ≡ (if b then take at items ++ entry ∷ drop at items else items) → map f new ≡ take at (map f items) ++ f entry ∷ drop at (map f items)
entries_placed f items new at entry true t e = ap (map f) e ∙ map-append f (take at items) (entry ∷ drop at items) ∙ ap₂ (λ l r. l ++ f entry ∷ r) (sym (take-map f at items)) (sym (drop-map f at items))
entries_placed f items new at entry false t e = absurd (both_ways false refl t)
