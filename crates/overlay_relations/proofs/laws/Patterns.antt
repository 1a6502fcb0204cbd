-- A pattern of nine letters, letter by letter.
use Rattle.std.proofs.Common.{◌≡◌, refl, sym, ◌∙◌, ℕ, List}
use Rattle.std.specs.Prelude.{◌&&◌, ◌↔◌, Bool, true, IsTrue}
use Rattle.std.specs.List.{slice_index}
use Rattle.std.proofs.lemmas.Bool.{and_parts}
use Rattle.overlay_relations.specs.Matrix.{entry}
use Rattle.overlay_relations.specs.Patterns.{allows, letter_index, Fits}
use Rattle.overlay_relations.specs.declared.matrix.Part.{Part}
use Rattle.overlay_relations.specs.declared.matrix.Part.TheVariants.{Interior, Boundary, Exterior}
use Rattle.overlay_relations.specs.declared.matrix.Relation.{Relation}

module _ (letters : List ℕ) (relation : Relation) where
  abbrev allowed : Part → Part → Bool
  allowed of_subject of_clip = allows (slice_index letters (letter_index of_subject of_clip)) (entry relation of_subject of_clip)

  module _ (a b c d e f g h i : Bool)
      (ea : a ≡ allowed Interior Interior) (eb : b ≡ allowed Interior Boundary) (ec : c ≡ allowed Interior Exterior) (ed : d ≡ allowed Boundary Interior) (ee : e ≡ allowed Boundary Boundary) (ef : f ≡ allowed Boundary Exterior) (eg : g ≡ allowed Exterior Interior) (eh : h ≡ allowed Exterior Boundary) (ei : i ≡ allowed Exterior Exterior) where
    abbrev all : Bool
    all = a && b && c && d && e && f && g && h && i

    each : all ≡ true → (of_subject of_clip : Part) → IsTrue (allowed of_subject of_clip)
    each t Interior Interior = sym ea ∙ (and_parts a b ((and_parts (a && b) c ((and_parts (a && b && c) d ((and_parts (a && b && c && d) e ((and_parts (a && b && c && d && e) f ((and_parts (a && b && c && d && e && f) g ((and_parts (a && b && c && d && e && f && g) h ((and_parts (a && b && c && d && e && f && g && h) i t).0)).0)).0)).0)).0)).0)).0)).0
    each t Interior Boundary = sym eb ∙ (and_parts a b ((and_parts (a && b) c ((and_parts (a && b && c) d ((and_parts (a && b && c && d) e ((and_parts (a && b && c && d && e) f ((and_parts (a && b && c && d && e && f) g ((and_parts (a && b && c && d && e && f && g) h ((and_parts (a && b && c && d && e && f && g && h) i t).0)).0)).0)).0)).0)).0)).0)).1
    each t Interior Exterior = sym ec ∙ (and_parts (a && b) c ((and_parts (a && b && c) d ((and_parts (a && b && c && d) e ((and_parts (a && b && c && d && e) f ((and_parts (a && b && c && d && e && f) g ((and_parts (a && b && c && d && e && f && g) h ((and_parts (a && b && c && d && e && f && g && h) i t).0)).0)).0)).0)).0)).0)).1
    each t Boundary Interior = sym ed ∙ (and_parts (a && b && c) d ((and_parts (a && b && c && d) e ((and_parts (a && b && c && d && e) f ((and_parts (a && b && c && d && e && f) g ((and_parts (a && b && c && d && e && f && g) h ((and_parts (a && b && c && d && e && f && g && h) i t).0)).0)).0)).0)).0)).1
    each t Boundary Boundary = sym ee ∙ (and_parts (a && b && c && d) e ((and_parts (a && b && c && d && e) f ((and_parts (a && b && c && d && e && f) g ((and_parts (a && b && c && d && e && f && g) h ((and_parts (a && b && c && d && e && f && g && h) i t).0)).0)).0)).0)).1
    each t Boundary Exterior = sym ef ∙ (and_parts (a && b && c && d && e) f ((and_parts (a && b && c && d && e && f) g ((and_parts (a && b && c && d && e && f && g) h ((and_parts (a && b && c && d && e && f && g && h) i t).0)).0)).0)).1
    each t Exterior Interior = sym eg ∙ (and_parts (a && b && c && d && e && f) g ((and_parts (a && b && c && d && e && f && g) h ((and_parts (a && b && c && d && e && f && g && h) i t).0)).0)).1
    each t Exterior Boundary = sym eh ∙ (and_parts (a && b && c && d && e && f && g) h ((and_parts (a && b && c && d && e && f && g && h) i t).0)).1
    each t Exterior Exterior = sym ei ∙ (and_parts (a && b && c && d && e && f && g && h) i t).1

    nine : a ≡ true → b ≡ true → c ≡ true → d ≡ true → e ≡ true → f ≡ true → g ≡ true → h ≡ true → i ≡ true → all ≡ true
    nine ha hb hc hd he hf hg hh hi = rw (ha, hb, hc, hd, he, hf, hg, hh, hi) refl

    pub told : (all ≡ true) ↔ Fits letters relation
    told = (each, λ fits. nine (ea ∙ fits Interior Interior) (eb ∙ fits Interior Boundary) (ec ∙ fits Interior Exterior) (ed ∙ fits Boundary Interior) (ee ∙ fits Boundary Boundary) (ef ∙ fits Boundary Exterior) (eg ∙ fits Exterior Interior) (eh ∙ fits Exterior Boundary) (ei ∙ fits Exterior Exterior))
