-- What a run returns, from what its calls do.
use Rattle.std.proofs.Common.{◌≡◌, ◌≢◌, ◌⊎◌, inl, inr, ℕ, ℤ, List, [], ◌∷◌, length, Ok, Err, None, refl, sym, ap, ◌∙◌, subst}
use Rattle.std.specs.Prelude.{unsigned_abs, IfErr, IsErrOf}
use Rattle.std.specs.Option.{ok_or}
use Rattle.std.specs.declared.result.Result.{Result}
use Rattle.overlay_base.specs.Segments.{WholeSegment}
use Rattle.overlay_base.specs.declared.segm.fault.Fault.TheVariants.{Memory}
use Rattle.overlay_text.specs.declared.settings.Command.{Command}
use Rattle.overlay_text.specs.declared.settings.Command.TheVariants.{Cross}
use Rattle.overlay_text.specs.declared.settings.Engine.{Engine}
use Rattle.overlay_text.specs.declared.settings.Settings.{Settings}
use Rattle.overlay_text.specs.declared.stop.Stop.{Stop}
use Rattle.overlay_text.specs.declared.stop.Stop.TheVariants.{Usage, NotTwoSegments, Refused}
use Rattle.overlay_text.specs.Output.{cross_text}
use Rattle.overlay_text.specs.Text.{lines_of, AskInTurnFor, IsFirstFault}
use Rattle.overlay_text.specs.Runs.{AskForNone}
use Rattle.overlay_text.specs.Words.{AskNothing}
use Rattle.overlay_text.specs.Engines.{least_of, greatest_of, engine_bits}
use Rattle.arrange.specs.Run.{IsCommandAnswer, IsAnswer, arrange_behavior}

cross_text-other : (r2 : ℕ) (segments : List WholeSegment) → length segments ≢ 2 → cross_text r2 segments ≡ None
cross_text-other r2 [] other = refl
cross_text-other r2 (s ∷ []) other = refl
cross_text-other r2 (s ∷ t ∷ []) other = absurd (other refl)
cross_text-other r2 (s ∷ t ∷ u ∷ segments) other = refl

module _ (least greatest : ℤ) (bits : ℕ) (settings : Settings) (bytes : List ℕ) where
  pub stops_at_fault : (command : Command) (stop : Stop) → (stop ≡ Refused Memory) ⊎ IsFirstFault least greatest (lines_of bytes) stop → (stop ≡ Refused Memory) ⊎ IsAnswer least greatest bits command settings bytes (Err stop)
  stops_at_fault command stop (inl refused) = inl refused
  stops_at_fault command stop (inr fault) = inr (inr (stop, fault, refl))

  pub stops_at_crossing : {T : Type 0} (r : Result T Stop) (segments : List WholeSegment) → AskInTurnFor least greatest (lines_of bytes) segments → (IsErrOf r NotTwoSegments → length segments ≢ 2)
      → IfErr r (λ stop. (stop ≡ NotTwoSegments) ⊎ (stop ≡ Refused Memory)) → IfErr r (λ stop. (stop ≡ Refused Memory) ⊎ IsAnswer least greatest bits Cross settings bytes (Err stop))
  stops_at_crossing (Ok text) segments asked two refused = tt
  stops_at_crossing (Err stop) segments asked two (inl other) =
      inr (inl (segments, asked, ap Err other ∙ sym (ap (λ text. ok_or text NotTwoSegments) (cross_text-other (unsigned_abs settings.radius.squared) segments (two (ap Err other))))))
  stops_at_crossing (Err stop) segments asked two (inr refused) = inl refused

  pub stops_at_command : {T : Type 0} (r : Result T Stop) (command : Command) (segments : List WholeSegment) → AskInTurnFor least greatest (lines_of bytes) segments
      → IfErr r (λ stop. (stop ≡ Refused Memory) ⊎ IsCommandAnswer bits command settings segments (Err stop)) → IfErr r (λ stop. (stop ≡ Refused Memory) ⊎ IsAnswer least greatest bits command settings bytes (Err stop))
  stops_at_command (Ok text) command segments asked stops = tt
  stops_at_command (Err stop) command segments asked (inl refused) = inl refused
  stops_at_command (Err stop) command segments asked (inr answer) = inr (inl (segments, asked, answer))

-- words that choose no command and no settings make no choices
pub no_choices : {T : Type 0} (words : List (List ℕ)) (r : Result T Stop) → IfErr r (λ stop. (stop ≡ Usage) × AskNothing words) → IfErr r (λ stop. (stop ≡ Usage) × AskForNone arrange_behavior words)
no_choices words (Ok t) refused = tt
no_choices words (Err stop) refused = (refused.0, λ choices. refused.1 choices.0 choices.1)

-- why there is no result in the coordinates of an engine, which is the one that was chosen
pub by_engine : {T : Type 0} (choices : Command × Settings) (engine : Engine) (bytes : List ℕ) (r : Result T Stop) → choices.1.engine ≡ engine
    → IfErr r (λ stop. (stop ≡ Refused Memory) ⊎ IsAnswer (least_of engine) (greatest_of engine) (engine_bits engine) choices.0 choices.1 bytes (Err stop))
    → IfErr r (λ stop. (stop ≡ Refused Memory) ⊎ arrange_behavior.Answers choices bytes (Err stop))
by_engine choices engine bytes r is stops =
    subst (λ e. IfErr r (λ stop. (stop ≡ Refused Memory) ⊎ IsAnswer (least_of e) (greatest_of e) (engine_bits e) choices.0 choices.1 bytes (Err stop))) (sym is) stops
