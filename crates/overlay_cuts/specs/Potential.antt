-- A number that rounded settling passes lower.
use Rattle.std.specs.Prelude.{ℕ, ◌+◌, ◌-◌, ◌-ℤ◌, unsigned_abs, List, sum_by, ◌≤◌}
use Rattle.overlay_geometry.specs.Points.{Pair}
use Rattle.overlay_base.specs.Segments.{WholeSegment}
use Rattle.overlay_cuts.specs.Run.{Settings, after_passes}

-- |dx| + |dy| - 1; the ends differ, so this is at least 0
unfoldable pub spread : Pair → ℕ
spread s = unsigned_abs (s.b.x -ℤ s.a.x) + unsigned_abs (s.b.y -ℤ s.a.y) - 1

unfoldable pub potential : List WholeSegment → ℕ
potential segments = sum_by (λ s. spread s.pair) segments

-- A run makes no more passes than its limit, the potential of the arrangement reached there, and one.
abbrev pub IsPassBound : Settings → List WholeSegment → ℕ → Type 0
IsPassBound settings given passes = passes ≤ settings.limit + potential (after_passes settings given settings.limit) + 1
