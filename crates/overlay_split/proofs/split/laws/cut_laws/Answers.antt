use Rattle.overlay_cuts.proofs.laws.nearness.Coverings.{cut_pieces_stay_near}
use Rattle.overlay_split.proofs.laws.nearness.NearLines.{cut_keeps_what_winds, cut_keeps_winding_near_lines}
use Rattle.overlay_split.proofs.laws.nearness.NearMasks.{cut_keeps_lines}
use Rattle.overlay_cuts.proofs.laws.nearness.Nearness.{cut_stays_near}
use Rattle.overlay_cuts.proofs.laws.nearness.Places.{cut_keeps_winding}
use Rattle.overlay_cuts.proofs.laws.passes.Splittable.{cut_is_splittable}
use Rattle.overlay_cuts.proofs.laws.paths.Balances.{cut_keeps_balance}
use Rattle.overlay_cuts.proofs.laws.paths.Boxes.{boxes_are_meant, cut_stays_in_box}
use Rattle.overlay_split.proofs.laws.paths.Masks.{cut_keeps_polygons}
use Rattle.overlay_cuts.proofs.laws.paths.Maps.{cut_is_map}
use Rattle.overlay_split.proofs.laws.planar.Arranged.{unmarked_cut_is_unchanged}
use Rattle.overlay_split.proofs.split.laws.cut_laws.Goals as goal

pub returns-clause-balance : goal.returns-clause-balance
returns-clause-balance c = cut_keeps_balance

pub returns-clause-map : goal.returns-clause-map
returns-clause-map c = cut_is_map

pub returns-clause-splittable : goal.returns-clause-splittable
returns-clause-splittable c = cut_is_splittable

pub returns-clause-unmarked : goal.returns-clause-unmarked
returns-clause-unmarked c = unmarked_cut_is_unchanged

pub returns-clause-polygons : goal.returns-clause-polygons
returns-clause-polygons c = cut_keeps_polygons

pub returns-clause-winds : goal.returns-clause-winds
returns-clause-winds c = cut_keeps_what_winds

pub returns-clause-lines : goal.returns-clause-lines
returns-clause-lines c = cut_keeps_lines

pub returns-clause-near_lines : goal.returns-clause-near_lines
returns-clause-near_lines c = cut_keeps_winding_near_lines

pub returns-clause-near : goal.returns-clause-near
returns-clause-near c = cut_stays_near

pub returns-clause-pieces : goal.returns-clause-pieces
returns-clause-pieces c = cut_pieces_stay_near

pub returns-clause-winding : goal.returns-clause-winding
returns-clause-winding c = cut_keeps_winding

pub returns-clause-in_box : goal.returns-clause-in_box
returns-clause-in_box c = cut_stays_in_box

pub returns-clause-boxes : goal.returns-clause-boxes
returns-clause-boxes c = boxes_are_meant
