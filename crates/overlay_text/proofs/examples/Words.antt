-- What words choose.
use Rattle.std.proofs.Common.{◌≡◌, refl, sym, ap, subst, get_or, ℕ, [], ◌∷◌, arith, inl, inr}
use Rattle.std.proofs.lemmas.List.Elements.{Contains-push_cases}
use Rattle.std.specs.Prelude.{Contains, codes}
use Rattle.overlay_text.specs.Words.{setting, IsSetting, IsChosen, NoneSets, WritesLimit}

rule_sets_no_limit : NoneSets (codes "limit") (codes "rule=all" ∷ [])
rule_sets_no_limit value h = elim (Contains-push_cases [] (codes "rule=all") (setting (codes "limit") value) h) [ inl early ↦ omega (arith, early.1) | inr same ↦ omega (arith, ap (λ word. get_or word 0 0) same) ]

limit_of_word : IsChosen (codes "limit") WritesLimit 256 (codes "rule=all" ∷ codes "limit=007" ∷ []) 7
limit_of_word =
    inl (codes "rule=all" ∷ [], codes "limit=007", [], refl, (codes "007", refl, ((omega arith, (omega arith, (omega arith, (omega arith, tt)))), omega arith, refl)), rule_sets_no_limit, λ value h. omega (arith, h.1))

limit_without_word : IsChosen (codes "limit") WritesLimit 256 (codes "rule=all" ∷ []) 256
limit_without_word = inr (rule_sets_no_limit, refl)

-- a limit that two words set is none, be they one word
limit_set_twice : (limit : ℕ) → ¬ (IsChosen (codes "limit") WritesLimit 256 (codes "limit=1" ∷ codes "limit=1" ∷ []) limit)
limit_set_twice limit (inr unset) = unset.0 (codes "1") (0, omega arith, refl)
limit_set_twice limit (inl ([], word, after, split, sets, none_before, none_after)) =
    let rest : after ≡ codes "limit=1" ∷ [] = cc in
    none_after (codes "1") (subst (λ words. Contains words (codes "limit=1")) (sym rest) (0, omega arith, refl))
limit_set_twice limit (inl (first ∷ before, word, after, split, sets, none_before, none_after)) =
    let is : first ≡ codes "limit=1" = cc in
    none_before (codes "1") (0, omega arith, is)

greatest_limit : WritesLimit (codes "4294967295") 4294967295
greatest_limit =
    ((omega arith, (omega arith, (omega arith, (omega arith, (omega arith, (omega arith, (omega arith, (omega arith, (omega arith, (omega arith, (omega arith, tt))))))))))), omega arith, refl)

one_limit_more : (limit : ℕ) → ¬ (WritesLimit (codes "4294967296") limit)
one_limit_more limit writes = omega (arith, writes.1, writes.2)

name_of_a_setting : IsSetting (codes "limit=")
name_of_a_setting = (codes "limit", [], (5, omega arith, refl), refl)
