-- Data that is handed through: what a segment is made with, what hooks keep of it, and what links have.
use Rattle.std.proofs.Common.{◌≡◌, ◌∙◌, ◌⊎◌, inl, inr, ℕ, ℤ, Bool, ◌&&◌, true, false, refl, sym, ap, subst, arith, List, [], ◌∷◌, map}
use Rattle.std.specs.Prelude.{IsTrue, ⊤, Vec}
use Rattle.std.specs.Global.{Global}
use Rattle.std.specs.List.{list_all}
use Rattle.std.proofs.lemmas.Grind.{common_steps}
use Rattle.std.proofs.lemmas.Bool.{or_left}
use Rattle.std.proofs.lemmas.List.Elements.{All-map}
use Rattle.std.proofs.lemmas.List.Folds.{list_all-map}
use Rattle.std.proofs.lemmas.Simd.{map-map}
use Rattle.overlay_geometry.specs.Points.{Point, Pair, point_lt, is_ordered}
use Rattle.overlay_base.specs.Planar.{is_splittable}
use Rattle.overlay_base.specs.Rules.{holds, keeps_fill}
use Rattle.overlay_base.specs.Windings.{Winding}
use Rattle.overlay_base.specs.Segments.{WholeSegment}
use Rattle.overlay_base.specs.EdgeData.{DataSegment, Hooks, data_piece, without_data}
use Rattle.overlay_base.specs.HooksOf.{hooks_of}
use Rattle.overlay_base.specs.Join.{join}
use Rattle.overlay_base.specs.SegmentOf.{segments_of, data_segments_of}
use Rattle.overlay_base.specs.declared.overlay_core.edge_data.OverlayEdgeData.{Ghosts}
use Rattle.overlay_base.specs.declared.segm.segment.Segment.{Segment}
use Rattle.overlay_base.specs.declared.overlay_core.fill_rule.FillRule.{FillRule}
use Rattle.overlay_base.specs.declared.overlay_core.link.OverlayLink.{OverlayLink}
use Rattle.overlay_base.specs.declared.overlay_core.overlay_rule.OverlayRule.{OverlayRule}
use Rattle.overlay_base.proofs.laws.joins.DataJoins.{bare}
use Rattle.overlay_cuts.specs.DataPass.{data_after_passes, IsDataAfter}
use Rattle.overlay_cuts.specs.Laws.{HooksKeep, HooksNameNoOther, NameNear}
use Rattle.overlay_cuts.specs.Nearness.{LiesNear}
use Rattle.overlay_snapping.specs.Chains.{AreSnapCuts}
use Rattle.overlay_snapping.specs.SnapOf.{data_snap}
use Rattle.overlay_contours.specs.Splittings.{Splitting, by_passes, by_snapping}
use Rattle.overlay_build.specs.Graph.{data_by}
use Rattle.overlay_build.specs.GraphOf.{link_of}
use Rattle.i_overlay.specs.Headline.{LinksNameNear}
use Rattle.i_overlay.specs.SplitLists.{HasDataOf}
use Rattle.i_overlay.specs.SplitterOf.{passes_in, reach_in}
use Rattle.std.proofs.lemmas.Bool.{and_from}
use Rattle.overlay_c.proofs.Usable.{are_splittable}
use Rattle.overlay_c.specs.Kept.{given_by, are_usable, core_splitting, kept_links, TaggedLink, IsDataOf, KeepsData}
use Rattle.overlay_c.specs.Records.{asks, asked_by, piece_of, fill_rule_of}
use Rattle.overlay_c.specs.Tags.{keeping, with_tag, untagged, tagged_by}
use Rattle.overlay_c.specs.declared.cores.Core.{Core}
use Rattle.overlay_c.specs.declared.records.SettingsRecord.{SettingsRecord}
use Rattle.overlay_c.specs.declared.tags.Tag.{Tag}
use Rattle.overlay_c.specs.declared.tags.TaggedRecord.{TaggedRecord}

-- ---- what is given

-- a segment that is made with data has it, whichever way it runs
pub piece_keeps : {S : Type 0} (count : Winding) (a b : Point) (tag : Tag) (store : S) → (data_piece keeping count a b tag store).0 ≡ with_tag (piece_of count a b) tag
unfolding data_piece
piece_keeps count a b tag store = grind (arith, common_steps)

made_in_order : {D S : Type 0} (hooks : Hooks D S) (count : Winding) (a b : Point) (edge_data : D) (store : S) → point_lt a b ≡ true
    → bare (data_piece hooks count a b edge_data store).0 ≡ record { pair = record { a = a; b = b }; count = count }
unfolding data_piece
made_in_order hooks count a b edge_data store h = rw (h, data_piece) refl

-- a segment that is made again, from its ends and its count, is itself
pub made_again : {D S : Type 0} (hooks : Hooks D S) (count w : Winding) (a b : Point) (s : Pair) (edge_data : D) (store : S) → is_ordered s ≡ true → record { a = a; b = b } ≡ s → count ≡ w
    → bare (data_piece hooks count a b edge_data store).0 ≡ record { pair = s; count = w }
made_again hooks count w a b s edge_data store h es ew =
    made_in_order hooks count a b edge_data store (subst (λ (t : Pair). is_ordered t ≡ true) (sym es) h) ∙ (λ i. record { pair = es i; count = ew i })

-- without their data, records describe the same segments
pub bare_tagged : (rs : List TaggedRecord) → without_data (tagged_by rs) ≡ given_by (untagged rs)
bare_tagged [] = refl
bare_tagged (r ∷ rs) = ap (λ l. asked_by r.segment ∷ l) (bare_tagged rs)

asks-map : (least greatest : ℤ) (rs : List TaggedRecord) → list_all (asks least greatest) (untagged rs) ≡ list_all (λ r. asks least greatest r.segment) rs
asks-map least greatest rs = list_all-map (asks least greatest) (λ (r : TaggedRecord). r.segment) rs

pub unusable_by : (least greatest : ℤ) (rs : List TaggedRecord) → false ≡ list_all (λ r. asks least greatest r.segment) rs → are_usable least greatest (untagged rs) ≡ false
unusable_by least greatest rs e = ap (λ all. all && is_splittable least greatest (given_by (untagged rs))) (asks-map least greatest rs ∙ sym e)

pub usable_by : (least greatest : ℤ) (rs : List TaggedRecord) → true ≡ list_all (λ r. asks least greatest r.segment) rs → are_usable least greatest (untagged rs) ≡ true
usable_by least greatest rs e =
    let all = asks-map least greatest rs ∙ sym e in
    and_from _ _ all (are_splittable least greatest (untagged rs) all)

pub splittable_by : (least greatest : ℤ) (rs : List TaggedRecord) (list : List WholeSegment) → true ≡ list_all (λ r. asks least greatest r.segment) rs → list ≡ without_data (tagged_by rs)
    → is_splittable least greatest list ≡ true
splittable_by least greatest rs list e el =
    ap (is_splittable least greatest) (el ∙ bare_tagged rs) ∙ are_splittable least greatest (untagged rs) (asks-map least greatest rs ∙ sym e)

-- ---- hooks

-- whatever holds of data, these hooks keep
pub keeping_keeps : {D S : Type 0} (has : D → Bool) → HooksKeep (keeping {D = D} {S = S}) has
keeping_keeps has = record {
  reversed = λ d store h. h;
  split = λ call store h. (h, h);
  merge = λ call store left right. left;
}

-- nor do they name another segment than before
pub keeping_names_no_other : {D S : Type 0} (names : D → Pair → Bool) → HooksNameNoOther (keeping {D = D} {S = S}) names
keeping_names_no_other names = record {
  reversed = λ d store s h. h;
  split_first = λ call store s h. h;
  split_rest = λ call store s h. h;
  merge = λ call store s h. or_left (names call.lhs_data s) (names call.rhs_data s) h;
}

-- ---- what is left

-- what a split makes of data, by hooks and with a first store, of segments that are these without their data
abbrev pub GivesData : {D S : Type 0} → Hooks D S → (S → Type 0) → Splitting → ℕ → List WholeSegment → List (DataSegment D) → List (DataSegment D) → Type 0
GivesData hooks IsFirst (by_passes settings) passes xs loaded now = IsDataAfter hooks IsFirst settings loaded now passes
GivesData {S = S} hooks IsFirst by_snapping passes xs loaded now = (store : S) × IsFirst store × ((on : Pair → List Point) → AreSnapCuts (join xs) on → now ≡ (data_snap hooks on loaded store).0)

pub data_from : {C I D S : Type 0} {m : _} {w : _} {o : _} {e : _} {p : _} (hooks : Ghosts D C S) (IsFirst : S → Type 0) (splitting : Splitting) (passes : ℕ) (given list : Vec (Segment C I D m w o e p) Global)
    → HasDataOf hooks IsFirst splitting passes given list → GivesData (hooks_of m.counted hooks) IsFirst splitting passes (segments_of given.items) (data_segments_of given.items) (data_segments_of list.items)
data_from hooks IsFirst (by_passes settings) passes given list h = h
data_from hooks IsFirst by_snapping passes given list h = h

pub either : {A B C D : Type 0} → (A → C) → (B → D) → A ⊎ B → C ⊎ D
either f g (inl a) = inl (f a)
either f g (inr b) = inr (g b)

-- so with these hooks
pub data_of : (s t : Splitting) (passes : ℕ) (loaded tagged now : List (DataSegment Tag)) (xs : List WholeSegment) (IsFirst : ⊤ → Type 0) → s ≡ t → xs ≡ without_data tagged → loaded ≡ tagged
    → GivesData keeping IsFirst s passes xs loaded now → IsDataOf t passes tagged now
data_of s t passes loaded tagged now xs IsFirst es ex el given = subst (λ u. IsDataOf u passes tagged now) es (by s given)
  where
    by : (u : Splitting) → GivesData keeping IsFirst u passes xs loaded now → IsDataOf u passes tagged now
    by (by_passes settings) (store, first, e) = e ∙ ap (λ l. (data_after_passes keeping settings l (tt {0}) passes).0) el
    by by_snapping (store, first, e) = λ on cuts. e on (subst (λ ws. AreSnapCuts (join ws) on) (sym ex) cuts) ∙ ap (λ l. (data_snap keeping on l (tt {0})).0) el

abbrev tagged_link : {I : Type 0} → (I → ℤ) → OverlayLink I Tag → TaggedLink
tagged_link whole l = record { link = link_of whole l; tag = l.edge_data }

-- what an engine keeps of data, from what the call below it returns
pub keeps_data : {I : Type 0} {w : _} {o : _} {e : _} {p : _} (settings : SettingsRecord) (rule : OverlayRule) (given : List (DataSegment Tag)) (core : Core I w o e p) (whole : I → ℤ) (links : List (OverlayLink I Tag)) (fill : FillRule) (loaded now : List (DataSegment Tag))
    → fill ≡ fill_rule_of settings.fill_rule → loaded ≡ given → kept_links core ≡ map (link_of whole) links → core.link_data.items ≡ map (λ l. l.edge_data) links
    → map (λ l. l.edge_data) links ≡ data_by (keeps_fill (holds rule)) fill now → (now ≡ []) ⊎ IsDataOf (core_splitting settings core) (passes_in core.splitter) given now
    → ((has : Tag → Bool) → IsTrue (list_all (λ s. has s.edge_data) loaded) → IsTrue (list_all (λ l. has l.edge_data) links))
    → ((names : Tag → Pair → Bool) → NameNear names 0 loaded → LinksNameNear whole names (reach_in core.splitter) links)
    → KeepsData settings rule given core
keeps_data settings rule given core whole links fill loaded now ef ex el ed told after kept named = record {
  links = map (tagged_link whole) links;
  same_links = map-map (λ (l : TaggedLink). l.link) (tagged_link whole) links ∙ sym el;
  same_data = map-map (λ (l : TaggedLink). l.tag) (tagged_link whole) links ∙ sym ed;
  arrangement = now;
  split_data = after;
  edge_data = ed ∙ told ∙ ap (λ f. data_by (keeps_fill (holds rule)) f now) ef;
  kept_data = λ has all. ap (list_all has) ed ∙ list_all-map has (λ (l : OverlayLink _ Tag). l.edge_data) links ∙ kept has (subst (λ (xs : List (DataSegment Tag)). IsTrue (list_all (λ s. has s.edge_data) xs)) (sym ex) all);
  named_data = λ names near. All-map (λ (l : TaggedLink). (s : Pair) → IsTrue (names l.tag s) → LiesNear (reach_in core.splitter) l.link.pair s) (tagged_link whole) links
      (named names (subst (λ (xs : List (DataSegment Tag)). NameNear names 0 xs) (sym ex) near));
}
