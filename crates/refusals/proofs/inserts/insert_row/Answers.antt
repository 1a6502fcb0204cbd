use Rattle.std.proofs.Common.{◌≡◌, ◌∙◌, ap, arith, refl, w32, to_z, of_z}
use Rattle.std.specs.Prelude.{ℕ, ◌*◌, ◌<◌, ℤ, pos, Result, Ok, Err, OnOk, OnErr}
use Rattle.std.proofs.Math.Facts.{to_z_pos}
use Rattle.overlay_sweep.proofs.laws.live.LevelRows.{no_rows, row_free, row_added}
use Rattle.refusals.proofs.inserts.insert_row.Goals as goal

-- what follows from both, of a result that holds one of them
of_both : {T E : Type 0} {P Q R : Type 0} (r : Result T E) → (P → R) → (Q → R) → OnOk r P → OnErr r Q → R
of_both (Ok x) f g p q = f p
of_both (Err e) f g p q = g q

read_back : (y : ℤ) (k : ℕ) → k < 40 → y ≡ pos (2 * k) → to_z w32 (of_z w32 y) ≡ pos (2 * k)
read_back y k few e = ap (λ (z : ℤ). to_z w32 (of_z w32 z)) e ∙ to_z_pos w32 (omega (arith, few))

pub insert-requires-clause-free : goal.insert-requires-clause-free
insert-requires-clause-free g c =
    let y = read_back c.height-y.result c.args.row c.requires.few c.height-y.ensures in
    row_free (pos 0) c.args.row _ (g.L.LiveSegments.sums c.args.live.now) refl (λ i. record { pair = record { a = record { x = pos 0; y = y i }; b = record { x = pos 10; y = y i } }; count = c.row_sum.ensures i }) c.requires.rows

pub returns-clause-rows : goal.returns-clause-rows
returns-clause-rows g c =
    let y = read_back c.height-y.result c.args.row c.requires.few c.height-y.ensures in
    of_both c.insert.result
    (λ same. row_added (pos 0) c.args.row _ (g.L.LiveSegments.sums c.insert.new.self) (g.L.LiveSegments.sums c.args.live.now) refl (λ i. record { pair = record { a = record { x = pos 0; y = y i }; b = record { x = pos 10; y = y i } }; count = c.row_sum.ensures i }) same c.requires.rows)
    (no_rows (pos 0) (g.L.LiveSegments.sums c.insert.new.self))
    c.insert.ensures.sums c.insert.ensures.emptied
