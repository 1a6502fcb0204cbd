-- The hooks of an edge data type, as functions of whole segments.
use Rattle.overlay_base.specs.Windings.{Winding}
use Rattle.overlay_base.specs.EdgeData.{Hooks}
use Rattle.overlay_base.specs.declared.overlay_core.edge_data.OverlayEdgeData.{Ghosts}

-- `counted` gives the count that a winding belongs to, and `given` says what the type's hooks give
abbrev pub hooks_of : {C D S : Type 0} → (Winding → C) → Ghosts D C S → Hooks D S
hooks_of counted given = record {
  reversed = given.reversed_gives;
  split = λ call. given.split_gives call.edge_data call.a call.p call.b;
  merge = λ call. given.merge_gives (record {
    lhs_data = call.lhs_data;
    lhs_count = counted call.lhs_count;
    rhs_data = call.rhs_data;
    rhs_count = counted call.rhs_count;
    out_count = counted call.out_count;
  });
}
