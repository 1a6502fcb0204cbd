use Rattle.overlay_build.proofs.laws.regions.BesidePlaces.{sides_have_places}
use Rattle.overlay_build.proofs.laws.regions.BesideUprights.{sides_tell_places, fills_tell_places}
use Rattle.overlay_build.proofs.build.laws.side_laws.Goals as goal

pub returns-clause-places : goal.returns-clause-places
returns-clause-places c = sides_have_places

pub returns-clause-sides : goal.returns-clause-sides
returns-clause-sides c = sides_tell_places

pub returns-clause-fills : goal.returns-clause-fills
returns-clause-fills c = fills_tell_places
