use Rattle.overlay_base.proofs.laws.rays.Losses.{balanced_loses_nothing}
use Rattle.overlay_base.proofs.laws.rays.Rays.{any_ray_will_do}
use Rattle.overlay_base.proofs.segm.laws.ray_laws.Goals as goal

pub returns-clause-losses : goal.returns-clause-losses
returns-clause-losses c = balanced_loses_nothing

pub returns-clause-any_ray : goal.returns-clause-any_ray
returns-clause-any_ray c = any_ray_will_do
