use Rattle.overlay_intersections.proofs.laws.crossings.RoundingMeanings.{roundings_are_as_meant}
use Rattle.overlay_intersections.proofs.split.laws.rounding_laws.Goals as goal

pub returns : goal.returns
returns c = roundings_are_as_meant
