-- Numbers that stand for the points of ends at places.
use Rattle.std.proofs.Common.{◌≡◌, ◌∙◌, refl, sym, ap, arith, ℕ, ◌<◌, ◌≤◌, ◌==◌, true, false, List, length, get_or, Option, Some, None}
use Rattle.std.specs.Option.{IfSome, IfNone, option_eq, unwrap_or}
use Rattle.std.proofs.lemmas.Bool.{false≢true}
use Rattle.std.proofs.lemmas.Bool.Decides.{Decides-eqb}
use Rattle.std.proofs.lemmas.Option.{none-some}
use Rattle.overlay_build.specs.steps.EndOf.{WholeEnd, unpacked}
use Rattle.overlay_build.specs.steps.LinksOf.{IsKeyAt, IsNextPoint}
use Rattle.overlay_build.proofs.laws.graphs.NodeLists.{next-first}
use Rattle.overlay_build.proofs.laws.graphs.PackedEnds.{unpacked-once}

-- the number of the point of an end there is
pub key-there : (ends : List WholeEnd) (place k : ℕ) → place < length ends → ((d : WholeEnd) → (get_or ends place d).point ≡ unpacked k) → IsKeyAt ends place (Some k)
key-there ends place k h at = record {
  found = λ j same. (h, λ d. at d ∙ ap (λ o. unpacked (unwrap_or o k)) same);
  over = λ none. absurd (none-some k (sym none));
}

-- and none, where there is no end
pub key-none : (ends : List WholeEnd) (place : ℕ) → length ends ≤ place → IsKeyAt ends place None
key-none ends place h = record { found = λ j same. absurd (none-some j same); over = λ _. h }

-- the end there lies where that number says
pub key-same : (ends : List WholeEnd) (place k : ℕ) (key : Option ℕ) → IsKeyAt ends place key → option_eq (λ i j. i == j) key (Some k) ≡ true → (place < length ends) × ((d : WholeEnd) → (get_or ends place d).point ≡ unpacked k)
key-same ends place k None is same = absurd (false≢true same)
key-same ends place k (Some j) is same = is.found k (ap Some ((Decides-eqb j k).0 same))

-- and not where another one does
pub key-other : (ends : List WholeEnd) (place k : ℕ) (key : Option ℕ) → IsKeyAt ends place key → option_eq (λ i j. i == j) key (Some k) ≡ false → (d : WholeEnd) → place < length ends → (get_or ends place d).point ≡ unpacked k → ⊥
key-other ends place k None is other d h at = let over = is.over refl in omega (arith, over, h)
key-other ends place k (Some j) is other d h at = false≢true (sym other ∙ (Decides-eqb j k).1 (unpacked-once j k (sym ((is.found j refl).1 d) ∙ at)))

-- where the second ends are over, the next point is that of the first end at a place, if there is one
pub next-of_first : (seconds : List WholeEnd) (end : ℕ) (key : Option ℕ) → length seconds ≤ end → IfSome key (λ k. (firsts : List WholeEnd) (start : ℕ) → IsKeyAt firsts start key → IsNextPoint firsts seconds start end (unpacked k))
next-of_first seconds end None over = tt
next-of_first seconds end (Some k) over = λ firsts start is.
    let there = is.found k refl in
    next-first firsts seconds start end (unpacked k) there.0 there.1 (λ d h. absurd (omega (arith, h, over)))

-- and else none
pub none-left : (key : Option ℕ) (n end : ℕ) → n ≤ end → IfNone key ((key ≡ None) × (n ≤ end))
none-left None n end over = (refl, over)
none-left (Some k) n end over = tt
