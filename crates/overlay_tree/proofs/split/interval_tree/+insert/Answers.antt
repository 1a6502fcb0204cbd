use Rattle.std.proofs.Common.{◌≡◌, true, sym, ap, ◌∙◌, ◌<◌, length, arith}
use Rattle.overlay_tree.specs.steps.IntervalTree.{Entry, inserted}
use Rattle.overlay_tree.proofs.laws.tree.IntervalTrees.{is_before}
use Rattle.overlay_tree.proofs.laws.tree.TreeCuts.{IsCut-from, mapped, summed_again, greatest_put, there_left, there_right, AreAt-from, AreUpTo-from, IsPut-root, IsPut-left, IsPut-right}
use Rattle.overlay_tree.proofs.split.interval_tree.+insert.Goals as goal

pub insert-requires : goal.insert-requires
insert-requires g t c κs within =
    let whole = g.I.OverlayInt.whole in
    let nodes = c.args.nodes.now in
    let l = c.split_at_mut-left.result.0.now in
    let r = c.in-Some.root.now in
    let s = c.in-Some.right.now in
    let low = whole c.args.low in
    let cut = IsCut-from whole nodes l c.split_at_mut-left.result.1.now r s c.split_at_mut-left.ensures.value c.in-Some.ensures.cases.0 c.split_at_mut-left.ensures.front_len c.requires.rising c.requires.summed in
    let at = AreAt-from whole c.args.index low nodes l r s cut c.requires.low in
    let up = AreUpTo-from whole c.args.index (whole c.args.high) nodes l r s cut c.requires.high in
    let before = ap (is_before low c.args.index) (sym c.raise.ensures.entry) ∙ sym c.stands_before.ensures ∙ c.if-stands_before.true in
    let there = there_left whole c.args.index low nodes l r s cut c.requires.low before c.requires.there in
    let less : length l < t = omega (arith, cut.left_less) in
    (less, (within, (cut.parted.left_rising, (cut.rooted.left_summed, (at.left_at, (up.left_up, there))))))

pub insert-requires-else-stands_before : goal.insert-requires-else-stands_before
insert-requires-else-stands_before g t c κs within =
    let whole = g.I.OverlayInt.whole in
    let nodes = c.args.nodes.now in
    let l = c.split_at_mut-left.result.0.now in
    let r = c.in-Some.root.now in
    let s = c.in-Some.right.now in
    let low = whole c.args.low in
    let cut = IsCut-from whole nodes l c.split_at_mut-left.result.1.now r s c.split_at_mut-left.ensures.value c.in-Some.ensures.cases.0 c.split_at_mut-left.ensures.front_len c.requires.rising c.requires.summed in
    let at = AreAt-from whole c.args.index low nodes l r s cut c.requires.low in
    let up = AreUpTo-from whole c.args.index (whole c.args.high) nodes l r s cut c.requires.high in
    let before = ap (is_before low c.args.index) (sym c.raise.ensures.entry) ∙ sym c.stands_before.ensures ∙ c.if-stands_before.false in
    let other = λ (k : c.args.index ≡ r.index). c.if-index-root.false (k ∙ ap (λ (e : Entry). e.index) (sym c.raise.ensures.entry)) in
    let there = there_right whole c.args.index low nodes l r s cut c.requires.low other before c.requires.there in
    let less : length s < t = omega (arith, cut.right_less) in
    (less, (within, (cut.parted.right_rising, (cut.rooted.right_summed, (at.right_at, (up.right_up, there))))))

pub returns-then-index-root : goal.returns-then-index-root
returns-then-index-root g t c =
    let whole = g.I.OverlayInt.whole in
    let nodes = c.args.nodes.now in
    let l = c.split_at_mut-left.result.0.now in
    let r = c.in-Some.root.now in
    let s = c.in-Some.right.now in
    let index = c.args.index in
    let low = whole c.args.low in
    let high = whole c.args.high in
    let cut = IsCut-from whole nodes l c.split_at_mut-left.result.1.now r s c.split_at_mut-left.ensures.value c.in-Some.ensures.cases.0 c.split_at_mut-left.ensures.front_len c.requires.rising c.requires.summed in
    let root = record c.raise.new.root { is_live = true } in
    let here = c.if-index-root.true ∙ ap (λ (e : Entry). e.index) c.raise.ensures.entry in
    let put = IsPut-root whole index low nodes l r s root cut c.requires.low here (ap (λ (e : Entry). record e { is_live = true }) c.raise.ensures.entry) in
    let all = mapped whole (inserted index) nodes l s l s r root cut put.left_put put.root_put put.right_put in
    let again = greatest_put whole index high nodes l r s l root s cut c.requires.high c.requires.there c.raise.ensures.greatest all in
    record { entries = all; summed = summed_again whole (inserted index) nodes l s l s r root cut put.left_put put.right_put put.left_summed put.right_summed again }

pub returns-then-stands_before : goal.returns-then-stands_before
returns-then-stands_before g t c =
    let whole = g.I.OverlayInt.whole in
    let nodes = c.args.nodes.now in
    let l = c.split_at_mut-left.result.0.now in
    let r = c.in-Some.root.now in
    let s = c.in-Some.right.now in
    let index = c.args.index in
    let low = whole c.args.low in
    let high = whole c.args.high in
    let cut = IsCut-from whole nodes l c.split_at_mut-left.result.1.now r s c.split_at_mut-left.ensures.value c.in-Some.ensures.cases.0 c.split_at_mut-left.ensures.front_len c.requires.rising c.requires.summed in
    let before = ap (is_before low index) (sym c.raise.ensures.entry) ∙ sym c.stands_before.ensures ∙ c.if-stands_before.true in
    let put = IsPut-left whole index low nodes l r s c.insert.new.nodes c.raise.new.root cut c.requires.low c.raise.ensures.entry before c.insert.ensures.entries c.insert.ensures.summed in
    let all = mapped whole (inserted index) nodes l s c.insert.new.nodes s r c.raise.new.root cut put.left_put put.root_put put.right_put in
    let again = greatest_put whole index high nodes l r s c.insert.new.nodes c.raise.new.root s cut c.requires.high c.requires.there c.raise.ensures.greatest all in
    record { entries = all; summed = summed_again whole (inserted index) nodes l s c.insert.new.nodes s r c.raise.new.root cut put.left_put put.right_put put.left_summed put.right_summed again }

pub returns-else-stands_before : goal.returns-else-stands_before
returns-else-stands_before g t c =
    let whole = g.I.OverlayInt.whole in
    let nodes = c.args.nodes.now in
    let l = c.split_at_mut-left.result.0.now in
    let r = c.in-Some.root.now in
    let s = c.in-Some.right.now in
    let index = c.args.index in
    let low = whole c.args.low in
    let high = whole c.args.high in
    let cut = IsCut-from whole nodes l c.split_at_mut-left.result.1.now r s c.split_at_mut-left.ensures.value c.in-Some.ensures.cases.0 c.split_at_mut-left.ensures.front_len c.requires.rising c.requires.summed in
    let before = ap (is_before low index) (sym c.raise.ensures.entry) ∙ sym c.stands_before.ensures ∙ c.if-stands_before.false in
    let other = λ (k : index ≡ r.index). c.if-index-root.false (k ∙ ap (λ (e : Entry). e.index) (sym c.raise.ensures.entry)) in
    let put = IsPut-right whole index low nodes l r s c.raise.new.root c.insert-else-stands_before.new.nodes cut c.requires.low c.raise.ensures.entry other before c.insert-else-stands_before.ensures.entries c.insert-else-stands_before.ensures.summed in
    let all = mapped whole (inserted index) nodes l s l c.insert-else-stands_before.new.nodes r c.raise.new.root cut put.left_put put.root_put put.right_put in
    let again = greatest_put whole index high nodes l r s l c.raise.new.root c.insert-else-stands_before.new.nodes cut c.requires.high c.requires.there c.raise.ensures.greatest all in
    record { entries = all; summed = summed_again whole (inserted index) nodes l s l c.insert-else-stands_before.new.nodes r c.raise.new.root cut put.left_put put.right_put put.left_summed put.right_summed again }
