use Rattle.std.proofs.Common.{◌≡◌, ◌∙◌, ap, arith, refl}
use Rattle.std.specs.Prelude.{codes}
use Rattle.overlay_text.specs.Words.{setting, NamesEngine, NamesStrategy, NamesPrecision, NamesFillRule, NamesRule, WritesLimit, WritesRadius, NamesRounding, IsName}
use Rattle.overlay_text.proofs.Slots.{takes_word, squares, is_known, passes_by, other_name, no_setting}
use Rattle.overlay_text.proofs.words.Choices.read.Goals as goal

pub returns-in_err-name-clause-engine : goal.returns-in_err-name-clause-engine
returns-in_err-name-clause-engine c = no_setting (codes "engine") NamesEngine c.args.word.now c.args.self.now.engine c.args.self.now.engine c.from_residual.result c.from_residual.ensures.0 (rw c.in_err-name.ensures.ok_part at c.name_and_value.ensures)

pub returns-in_err-name-clause-strategy : goal.returns-in_err-name-clause-strategy
returns-in_err-name-clause-strategy c = no_setting (codes "strategy") NamesStrategy c.args.word.now c.args.self.now.strategy c.args.self.now.strategy c.from_residual.result c.from_residual.ensures.0 (rw c.in_err-name.ensures.ok_part at c.name_and_value.ensures)

pub returns-in_err-name-clause-precision : goal.returns-in_err-name-clause-precision
returns-in_err-name-clause-precision c = no_setting (codes "precision") NamesPrecision c.args.word.now c.args.self.now.precision c.args.self.now.precision c.from_residual.result c.from_residual.ensures.0 (rw c.in_err-name.ensures.ok_part at c.name_and_value.ensures)

pub returns-in_err-name-clause-fill : goal.returns-in_err-name-clause-fill
returns-in_err-name-clause-fill c = no_setting (codes "fill") NamesFillRule c.args.word.now c.args.self.now.fill_rule c.args.self.now.fill_rule c.from_residual.result c.from_residual.ensures.0 (rw c.in_err-name.ensures.ok_part at c.name_and_value.ensures)

pub returns-in_err-name-clause-rule : goal.returns-in_err-name-clause-rule
returns-in_err-name-clause-rule c = no_setting (codes "rule") NamesRule c.args.word.now c.args.self.now.rule c.args.self.now.rule c.from_residual.result c.from_residual.ensures.0 (rw c.in_err-name.ensures.ok_part at c.name_and_value.ensures)

pub returns-in_err-name-clause-limit : goal.returns-in_err-name-clause-limit
returns-in_err-name-clause-limit c = no_setting (codes "limit") WritesLimit c.args.word.now c.args.self.now.snap_limit c.args.self.now.snap_limit c.from_residual.result c.from_residual.ensures.0 (rw c.in_err-name.ensures.ok_part at c.name_and_value.ensures)

pub returns-in_err-name-clause-radius : goal.returns-in_err-name-clause-radius
returns-in_err-name-clause-radius c = no_setting (codes "radius") WritesRadius c.args.word.now c.args.self.now.radius c.args.self.now.radius c.from_residual.result c.from_residual.ensures.0 (rw c.in_err-name.ensures.ok_part at c.name_and_value.ensures)

pub returns-in_err-name-clause-rounding : goal.returns-in_err-name-clause-rounding
returns-in_err-name-clause-rounding c = no_setting (codes "rounding") NamesRounding c.args.word.now c.args.self.now.rounding c.args.self.now.rounding c.from_residual.result c.from_residual.ensures.0 (rw c.in_err-name.ensures.ok_part at c.name_and_value.ensures)

pub returns-in-engine : goal.returns-in-engine
returns-in-engine c =
    let self = c.args.self.now in
    let word = c.args.word.now in
    let value = c.in_ok-name.value.now in
    let took = c.choose in
    let sets : word ≡ setting (codes "engine") value = (rw c.in_ok-name.ensures.ok_part at c.name_and_value.ensures).0 ∙ ap (λ name. setting name value) c.in-engine.is in
    record {
      known = is_known took.result (codes "engine") value word (0, omega arith, refl) sets;
      engine = takes_word (codes "engine") NamesEngine word value self.engine took.new.slot c.engine.result took.result sets took.ensures.once took.ensures.ok c.engine.ensures;
      strategy = passes_by word (codes "engine") value took.result sets refl (codes "strategy") NamesStrategy self.strategy refl refl;
      precision = passes_by word (codes "engine") value took.result sets refl (codes "precision") NamesPrecision self.precision refl refl;
      fill = passes_by word (codes "engine") value took.result sets refl (codes "fill") NamesFillRule self.fill_rule refl refl;
      rule = passes_by word (codes "engine") value took.result sets refl (codes "rule") NamesRule self.rule refl refl;
      limit = passes_by word (codes "engine") value took.result sets refl (codes "limit") WritesLimit self.snap_limit refl refl;
      radius = passes_by word (codes "engine") value took.result sets refl (codes "radius") WritesRadius self.radius refl refl;
      rounding = passes_by word (codes "engine") value took.result sets refl (codes "rounding") NamesRounding self.rounding refl refl;
      usage = took.ensures.usage;
    }

pub returns-in-strategy : goal.returns-in-strategy
returns-in-strategy c =
    let self = c.args.self.now in
    let word = c.args.word.now in
    let value = c.in_ok-name.value.now in
    let took = c.choose-in-strategy in
    let sets : word ≡ setting (codes "strategy") value = (rw c.in_ok-name.ensures.ok_part at c.name_and_value.ensures).0 ∙ ap (λ name. setting name value) c.in-strategy.is in
    record {
      known = is_known took.result (codes "strategy") value word (1, omega arith, refl) sets;
      engine = passes_by word (codes "strategy") value took.result sets refl (codes "engine") NamesEngine self.engine refl refl;
      strategy = takes_word (codes "strategy") NamesStrategy word value self.strategy took.new.slot c.strategy.result took.result sets took.ensures.once took.ensures.ok c.strategy.ensures;
      precision = passes_by word (codes "strategy") value took.result sets refl (codes "precision") NamesPrecision self.precision refl refl;
      fill = passes_by word (codes "strategy") value took.result sets refl (codes "fill") NamesFillRule self.fill_rule refl refl;
      rule = passes_by word (codes "strategy") value took.result sets refl (codes "rule") NamesRule self.rule refl refl;
      limit = passes_by word (codes "strategy") value took.result sets refl (codes "limit") WritesLimit self.snap_limit refl refl;
      radius = passes_by word (codes "strategy") value took.result sets refl (codes "radius") WritesRadius self.radius refl refl;
      rounding = passes_by word (codes "strategy") value took.result sets refl (codes "rounding") NamesRounding self.rounding refl refl;
      usage = took.ensures.usage;
    }

pub returns-in-precision : goal.returns-in-precision
returns-in-precision c =
    let self = c.args.self.now in
    let word = c.args.word.now in
    let value = c.in_ok-name.value.now in
    let took = c.choose-in-precision in
    let sets : word ≡ setting (codes "precision") value = (rw c.in_ok-name.ensures.ok_part at c.name_and_value.ensures).0 ∙ ap (λ name. setting name value) c.in-precision.is in
    record {
      known = is_known took.result (codes "precision") value word (2, omega arith, refl) sets;
      engine = passes_by word (codes "precision") value took.result sets refl (codes "engine") NamesEngine self.engine refl refl;
      strategy = passes_by word (codes "precision") value took.result sets refl (codes "strategy") NamesStrategy self.strategy refl refl;
      precision = takes_word (codes "precision") NamesPrecision word value self.precision took.new.slot c.precision.result took.result sets took.ensures.once took.ensures.ok c.precision.ensures;
      fill = passes_by word (codes "precision") value took.result sets refl (codes "fill") NamesFillRule self.fill_rule refl refl;
      rule = passes_by word (codes "precision") value took.result sets refl (codes "rule") NamesRule self.rule refl refl;
      limit = passes_by word (codes "precision") value took.result sets refl (codes "limit") WritesLimit self.snap_limit refl refl;
      radius = passes_by word (codes "precision") value took.result sets refl (codes "radius") WritesRadius self.radius refl refl;
      rounding = passes_by word (codes "precision") value took.result sets refl (codes "rounding") NamesRounding self.rounding refl refl;
      usage = took.ensures.usage;
    }

pub returns-in-fill : goal.returns-in-fill
returns-in-fill c =
    let self = c.args.self.now in
    let word = c.args.word.now in
    let value = c.in_ok-name.value.now in
    let took = c.choose-in-fill in
    let sets : word ≡ setting (codes "fill") value = (rw c.in_ok-name.ensures.ok_part at c.name_and_value.ensures).0 ∙ ap (λ name. setting name value) c.in-fill.is in
    record {
      known = is_known took.result (codes "fill") value word (3, omega arith, refl) sets;
      engine = passes_by word (codes "fill") value took.result sets refl (codes "engine") NamesEngine self.engine refl refl;
      strategy = passes_by word (codes "fill") value took.result sets refl (codes "strategy") NamesStrategy self.strategy refl refl;
      precision = passes_by word (codes "fill") value took.result sets refl (codes "precision") NamesPrecision self.precision refl refl;
      fill = takes_word (codes "fill") NamesFillRule word value self.fill_rule took.new.slot c.fill_rule.result took.result sets took.ensures.once took.ensures.ok c.fill_rule.ensures;
      rule = passes_by word (codes "fill") value took.result sets refl (codes "rule") NamesRule self.rule refl refl;
      limit = passes_by word (codes "fill") value took.result sets refl (codes "limit") WritesLimit self.snap_limit refl refl;
      radius = passes_by word (codes "fill") value took.result sets refl (codes "radius") WritesRadius self.radius refl refl;
      rounding = passes_by word (codes "fill") value took.result sets refl (codes "rounding") NamesRounding self.rounding refl refl;
      usage = took.ensures.usage;
    }

pub returns-in-rule : goal.returns-in-rule
returns-in-rule c =
    let self = c.args.self.now in
    let word = c.args.word.now in
    let value = c.in_ok-name.value.now in
    let took = c.choose-in-rule in
    let sets : word ≡ setting (codes "rule") value = (rw c.in_ok-name.ensures.ok_part at c.name_and_value.ensures).0 ∙ ap (λ name. setting name value) c.in-rule.is in
    record {
      known = is_known took.result (codes "rule") value word (4, omega arith, refl) sets;
      engine = passes_by word (codes "rule") value took.result sets refl (codes "engine") NamesEngine self.engine refl refl;
      strategy = passes_by word (codes "rule") value took.result sets refl (codes "strategy") NamesStrategy self.strategy refl refl;
      precision = passes_by word (codes "rule") value took.result sets refl (codes "precision") NamesPrecision self.precision refl refl;
      fill = passes_by word (codes "rule") value took.result sets refl (codes "fill") NamesFillRule self.fill_rule refl refl;
      rule = takes_word (codes "rule") NamesRule word value self.rule took.new.slot c.rule.result took.result sets took.ensures.once took.ensures.ok c.rule.ensures;
      limit = passes_by word (codes "rule") value took.result sets refl (codes "limit") WritesLimit self.snap_limit refl refl;
      radius = passes_by word (codes "rule") value took.result sets refl (codes "radius") WritesRadius self.radius refl refl;
      rounding = passes_by word (codes "rule") value took.result sets refl (codes "rounding") NamesRounding self.rounding refl refl;
      usage = took.ensures.usage;
    }

pub returns-in-limit : goal.returns-in-limit
returns-in-limit c =
    let self = c.args.self.now in
    let word = c.args.word.now in
    let value = c.in_ok-name.value.now in
    let took = c.choose-in-limit in
    let sets : word ≡ setting (codes "limit") value = (rw c.in_ok-name.ensures.ok_part at c.name_and_value.ensures).0 ∙ ap (λ name. setting name value) c.in-limit.is in
    record {
      known = is_known took.result (codes "limit") value word (5, omega arith, refl) sets;
      engine = passes_by word (codes "limit") value took.result sets refl (codes "engine") NamesEngine self.engine refl refl;
      strategy = passes_by word (codes "limit") value took.result sets refl (codes "strategy") NamesStrategy self.strategy refl refl;
      precision = passes_by word (codes "limit") value took.result sets refl (codes "precision") NamesPrecision self.precision refl refl;
      fill = passes_by word (codes "limit") value took.result sets refl (codes "fill") NamesFillRule self.fill_rule refl refl;
      rule = passes_by word (codes "limit") value took.result sets refl (codes "rule") NamesRule self.rule refl refl;
      limit = takes_word (codes "limit") WritesLimit word value self.snap_limit took.new.slot c.snap_limit.result took.result sets took.ensures.once took.ensures.ok c.snap_limit.ensures;
      radius = passes_by word (codes "limit") value took.result sets refl (codes "radius") WritesRadius self.radius refl refl;
      rounding = passes_by word (codes "limit") value took.result sets refl (codes "rounding") NamesRounding self.rounding refl refl;
      usage = took.ensures.usage;
    }

pub returns-in-radius : goal.returns-in-radius
returns-in-radius c =
    let self = c.args.self.now in
    let word = c.args.word.now in
    let value = c.in_ok-name.value.now in
    let took = c.choose-in-radius in
    let sets : word ≡ setting (codes "radius") value = (rw c.in_ok-name.ensures.ok_part at c.name_and_value.ensures).0 ∙ ap (λ name. setting name value) c.in-radius.is in
    record {
      known = is_known took.result (codes "radius") value word (6, omega arith, refl) sets;
      engine = passes_by word (codes "radius") value took.result sets refl (codes "engine") NamesEngine self.engine refl refl;
      strategy = passes_by word (codes "radius") value took.result sets refl (codes "strategy") NamesStrategy self.strategy refl refl;
      precision = passes_by word (codes "radius") value took.result sets refl (codes "precision") NamesPrecision self.precision refl refl;
      fill = passes_by word (codes "radius") value took.result sets refl (codes "fill") NamesFillRule self.fill_rule refl refl;
      rule = passes_by word (codes "radius") value took.result sets refl (codes "rule") NamesRule self.rule refl refl;
      limit = passes_by word (codes "radius") value took.result sets refl (codes "limit") WritesLimit self.snap_limit refl refl;
      radius = takes_word (codes "radius") WritesRadius word value self.radius took.new.slot c.radius.result took.result sets took.ensures.once took.ensures.ok (squares value c.radius.result c.radius.ensures);
      rounding = passes_by word (codes "radius") value took.result sets refl (codes "rounding") NamesRounding self.rounding refl refl;
      usage = took.ensures.usage;
    }

pub returns-in-rounding : goal.returns-in-rounding
returns-in-rounding c =
    let self = c.args.self.now in
    let word = c.args.word.now in
    let value = c.in_ok-name.value.now in
    let took = c.choose-in-rounding in
    let sets : word ≡ setting (codes "rounding") value = (rw c.in_ok-name.ensures.ok_part at c.name_and_value.ensures).0 ∙ ap (λ name. setting name value) c.in-rounding.is in
    record {
      known = is_known took.result (codes "rounding") value word (7, omega arith, refl) sets;
      engine = passes_by word (codes "rounding") value took.result sets refl (codes "engine") NamesEngine self.engine refl refl;
      strategy = passes_by word (codes "rounding") value took.result sets refl (codes "strategy") NamesStrategy self.strategy refl refl;
      precision = passes_by word (codes "rounding") value took.result sets refl (codes "precision") NamesPrecision self.precision refl refl;
      fill = passes_by word (codes "rounding") value took.result sets refl (codes "fill") NamesFillRule self.fill_rule refl refl;
      rule = passes_by word (codes "rounding") value took.result sets refl (codes "rule") NamesRule self.rule refl refl;
      limit = passes_by word (codes "rounding") value took.result sets refl (codes "limit") WritesLimit self.snap_limit refl refl;
      radius = passes_by word (codes "rounding") value took.result sets refl (codes "radius") WritesRadius self.radius refl refl;
      rounding = takes_word (codes "rounding") NamesRounding word value self.rounding took.new.slot c.rounding.result took.result sets took.ensures.once took.ensures.ok c.rounding.ensures;
      usage = took.ensures.usage;
    }

pub returns-in_default-clause-engine : goal.returns-in_default-clause-engine
returns-in_default-clause-engine c =
    let parts : (c.args.word.now ≡ setting c.in_ok-name.name.now c.in_ok-name.value.now) × IsName c.in_ok-name.name.now = rw c.in_ok-name.ensures.ok_part at c.name_and_value.ensures in
    other_name (codes "engine") NamesEngine c.args.word.now c.in_ok-name.name.now c.in_ok-name.value.now c.args.self.now.engine parts.0 parts.1 refl c.in_default.not-engine

pub returns-in_default-clause-strategy : goal.returns-in_default-clause-strategy
returns-in_default-clause-strategy c =
    let parts : (c.args.word.now ≡ setting c.in_ok-name.name.now c.in_ok-name.value.now) × IsName c.in_ok-name.name.now = rw c.in_ok-name.ensures.ok_part at c.name_and_value.ensures in
    other_name (codes "strategy") NamesStrategy c.args.word.now c.in_ok-name.name.now c.in_ok-name.value.now c.args.self.now.strategy parts.0 parts.1 refl c.in_default.not-strategy

pub returns-in_default-clause-precision : goal.returns-in_default-clause-precision
returns-in_default-clause-precision c =
    let parts : (c.args.word.now ≡ setting c.in_ok-name.name.now c.in_ok-name.value.now) × IsName c.in_ok-name.name.now = rw c.in_ok-name.ensures.ok_part at c.name_and_value.ensures in
    other_name (codes "precision") NamesPrecision c.args.word.now c.in_ok-name.name.now c.in_ok-name.value.now c.args.self.now.precision parts.0 parts.1 refl c.in_default.not-precision

pub returns-in_default-clause-fill : goal.returns-in_default-clause-fill
returns-in_default-clause-fill c =
    let parts : (c.args.word.now ≡ setting c.in_ok-name.name.now c.in_ok-name.value.now) × IsName c.in_ok-name.name.now = rw c.in_ok-name.ensures.ok_part at c.name_and_value.ensures in
    other_name (codes "fill") NamesFillRule c.args.word.now c.in_ok-name.name.now c.in_ok-name.value.now c.args.self.now.fill_rule parts.0 parts.1 refl c.in_default.not-fill

pub returns-in_default-clause-rule : goal.returns-in_default-clause-rule
returns-in_default-clause-rule c =
    let parts : (c.args.word.now ≡ setting c.in_ok-name.name.now c.in_ok-name.value.now) × IsName c.in_ok-name.name.now = rw c.in_ok-name.ensures.ok_part at c.name_and_value.ensures in
    other_name (codes "rule") NamesRule c.args.word.now c.in_ok-name.name.now c.in_ok-name.value.now c.args.self.now.rule parts.0 parts.1 refl c.in_default.not-rule

pub returns-in_default-clause-limit : goal.returns-in_default-clause-limit
returns-in_default-clause-limit c =
    let parts : (c.args.word.now ≡ setting c.in_ok-name.name.now c.in_ok-name.value.now) × IsName c.in_ok-name.name.now = rw c.in_ok-name.ensures.ok_part at c.name_and_value.ensures in
    other_name (codes "limit") WritesLimit c.args.word.now c.in_ok-name.name.now c.in_ok-name.value.now c.args.self.now.snap_limit parts.0 parts.1 refl c.in_default.not-limit

pub returns-in_default-clause-radius : goal.returns-in_default-clause-radius
returns-in_default-clause-radius c =
    let parts : (c.args.word.now ≡ setting c.in_ok-name.name.now c.in_ok-name.value.now) × IsName c.in_ok-name.name.now = rw c.in_ok-name.ensures.ok_part at c.name_and_value.ensures in
    other_name (codes "radius") WritesRadius c.args.word.now c.in_ok-name.name.now c.in_ok-name.value.now c.args.self.now.radius parts.0 parts.1 refl c.in_default.not-radius

pub returns-in_default-clause-rounding : goal.returns-in_default-clause-rounding
returns-in_default-clause-rounding c =
    let parts : (c.args.word.now ≡ setting c.in_ok-name.name.now c.in_ok-name.value.now) × IsName c.in_ok-name.name.now = rw c.in_ok-name.ensures.ok_part at c.name_and_value.ensures in
    other_name (codes "rounding") NamesRounding c.args.word.now c.in_ok-name.name.now c.in_ok-name.value.now c.args.self.now.rounding parts.0 parts.1 refl c.in_default.not-rounding
