-- What a line describes, from its words, and what the lines of a text describe, one line more at a time.
use Rattle.std.proofs.Common.{rules, ◌≡◌, ◌≢◌, inl, inr, ℤ, ◌+◌, length, arith, append-nil, append_assoc, length-append, List, [], ◌∷◌, ◌++◌, ℕ, Some, None, refl, sym, ap, ◌∙◌, subst}
use Rattle.overlay_geometry.specs.Points.{Point}
use Rattle.overlay_base.specs.Segments.{WholeSegment}
use Rattle.overlay_base.specs.declared.segm.shape_type.ShapeType.{ShapeType}
use Rattle.overlay_text.specs.declared.stop.LineFault.{LineFault}
use Rattle.overlay_text.specs.declared.stop.LineFault.TheVariants.{Form}
use Rattle.overlay_text.specs.declared.stop.Stop.TheVariants.{Line}
use Rattle.overlay_text.specs.Lines.{step_fault, step_segment}
use Rattle.overlay_text.specs.Text.{words_of_line, WritesStep, AsksFor, IsFaulty, AskInTurn, IsFirstFaultOf}

cons_is_no_nil : {X : Type 0} {x : X} {xs : List X} → x ∷ xs ≡ [] → ⊥
cons_is_no_nil e = search (rules, e)

module _ (least greatest : ℤ) (line word : List ℕ) (words : List (List ℕ)) (are : words_of_line line ≡ word ∷ words) where
  pub form_fault : ((shape_type : ShapeType) (a b : Point) → ¬ (WritesStep (word ∷ words) shape_type a b)) → IsFaulty least greatest line Form
  form_fault none =
      let some : words_of_line line ≢ [] = λ nothing. absurd (cons_is_no_nil (sym are ∙ nothing)) in
      inl (refl, some, λ shape_type a b writes. none shape_type a b (subst (λ ws. WritesStep ws shape_type a b) are writes))

  module _ (shape_type : ShapeType) (a b : Point) (writes : WritesStep (word ∷ words) shape_type a b) where
    pub step_is_faulty : (fault : LineFault) → step_fault least greatest a b ≡ Some fault → IsFaulty least greatest line fault
    step_is_faulty fault faulty = inr (shape_type, a, b, subst (λ ws. WritesStep ws shape_type a b) (sym are) writes, faulty)

    pub asks_for_step : (segment : WholeSegment) → step_fault least greatest a b ≡ None → segment ≡ step_segment shape_type a b → AsksFor least greatest line segment
    asks_for_step segment sound is = (shape_type, a, b, subst (λ ws. WritesStep ws shape_type a b) (sym are) writes, sound, is)

module _ {X : Type 0} (Asks : List ℕ → X → Type 0) where
  ask-blank : (lines : List (List ℕ)) (asked : List X) (line : List ℕ) → AskInTurn Asks lines asked → words_of_line line ≡ [] → AskInTurn Asks (lines ++ line ∷ []) asked
  ask-blank [] asked line in_turn blank = inl (blank, in_turn)
  ask-blank (first ∷ lines) asked line (inl h) blank = inl (h.0, ask-blank lines asked line h.1 blank)
  ask-blank (first ∷ lines) asked line (inr h) blank = inr (h.0, h.1, h.2, h.3, ask-blank lines h.1 line h.4 blank)

  ask-one : (lines : List (List ℕ)) (asked : List X) (line : List ℕ) (one : X) → AskInTurn Asks lines asked → Asks line one → AskInTurn Asks (lines ++ line ∷ []) (asked ++ one ∷ [])
  ask-one [] asked line one in_turn asks = inr (one, [], ap (λ l. l ++ one ∷ []) in_turn, asks, refl)
  ask-one (first ∷ lines) asked line one (inl h) asks = inl (h.0, ask-one lines asked line one h.1 asks)
  ask-one (first ∷ lines) asked line one (inr h) asks = inr (h.0, h.1 ++ one ∷ [], ap (λ l. l ++ one ∷ []) h.2, h.3, ask-one lines h.1 line one h.4 asks)

  -- of the lines of a text these are left, as many were taken, and those describe in turn this
  abbrev pub Taken : List (List ℕ) → List (List ℕ) → ℕ → List X → Type 0
  Taken lines left count asked = (before : List (List ℕ)) × (lines ≡ before ++ left) × (length before ≡ count) × AskInTurn Asks before asked

  module _ (lines left others : List (List ℕ)) (count next : ℕ) (asked : List X) (line : List ℕ) (taken : Taken lines left count asked) (first : left ≡ line ∷ others) (one_more : next ≡ count + 1) where
    moved : (before : List (List ℕ)) → lines ≡ before ++ left → lines ≡ (before ++ line ∷ []) ++ others
    moved before e = e ∙ (ap (λ l. before ++ l) first ∙ sym (append_assoc before (line ∷ []) others))

    pub taken-blank : words_of_line line ≡ [] → Taken lines others next asked
    taken-blank blank = (taken.0 ++ line ∷ [], moved taken.0 taken.1, omega (arith, length-append taken.0 (line ∷ []), taken.2, one_more), ask-blank taken.0 asked line taken.3 blank)

    pub taken-one : (one : X) → Asks line one → Taken lines others next (asked ++ one ∷ [])
    taken-one one asks = (taken.0 ++ line ∷ [], moved taken.0 taken.1, omega (arith, length-append taken.0 (line ∷ []), taken.2, one_more), ask-one taken.0 asked line one taken.3 asks)

    pub first_fault : (HasFault : List ℕ → LineFault → Type 0) (fault : LineFault) → HasFault line fault → IsFirstFaultOf Asks HasFault lines (Line next fault)
    first_fault HasFault fault faulty = (taken.0, line, others, taken.1 ∙ ap (λ l. taken.0 ++ l) first, (asked, taken.3), (fault, faulty, ap (λ n. Line n fault) (omega (arith, taken.2, one_more))))

  pub all_taken : (lines left : List (List ℕ)) (count : ℕ) (asked : List X) → Taken lines left count asked → left ≡ [] → AskInTurn Asks lines asked
  all_taken lines left count asked taken none =
      subst (λ l. AskInTurn Asks l asked) (sym (taken.1 ∙ (ap (λ l. taken.0 ++ l) none ∙ append-nil taken.0))) taken.3
