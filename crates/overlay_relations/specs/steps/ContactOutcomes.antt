-- What is found on the way to the contact of two shapes.
use Rattle.std.specs.Prelude.{List, Contains}
use Rattle.overlay_geometry.specs.Points.{Point}
use Rattle.overlay_base.specs.declared.overlay_core.fill_rule.FillRule.{FillRule}
use Rattle.overlay_relations.specs.Boundaries.{IsBoundaryOf}
use Rattle.overlay_relations.specs.Contacts.{AreDisjoint, Touch}
use Rattle.overlay_relations.specs.Relations.{InteriorsMeet}
use Rattle.overlay_relations.specs.declared.contacts.Contact.{Contact}
use Rattle.overlay_relations.specs.declared.contacts.Contact.TheVariants.{Apart, Touching, Meeting}

-- the shapes meet so
abbrev pub IsContact : FillRule → FillRule → List (List Point) → List (List Point) → Contact → Type 0
IsContact subject_rule clip_rule subject clip Apart = AreDisjoint subject_rule clip_rule subject clip
IsContact subject_rule clip_rule subject clip Touching = Touch subject_rule clip_rule subject clip
IsContact subject_rule clip_rule subject clip Meeting = InteriorsMeet subject_rule clip_rule subject clip

-- All shapes that have these boundaries meet so.
abbrev pub IsBoundaryContact : List (List Point) → List (List Point) → Contact → Type 0
IsBoundaryContact first second contact =
    (subject_rule clip_rule : FillRule) (subject clip : List (List Point)) →
    IsBoundaryOf subject_rule subject first → IsBoundaryOf clip_rule clip second → IsContact subject_rule clip_rule subject clip contact

-- Some point is in both lists.
abbrev pub ShareSome : List Point → List Point → Type 0
ShareSome first second = (p : Point) × Contains first p × Contains second p
