use Rattle.std.proofs.Common.{ap}
use Rattle.rs_items.specs.Known.{fields_of, view_known}
use Rattle.rs_items.specs.declared.map.NameMap.{NameMap}
use Rattle.rs_items.proofs.Kept.{leaves_err, puts_ok}
use Rattle.rs_items.proofs.map.NameMap.keep.Goals as goal

pub returns-in_default : goal.returns-in_default
returns-in_default c =
    let same = ap (λ (names : NameMap). names.temporaries) c.keep_other.ensures.others in
    record {
      known = puts_ok c.args.self.now c.keep_other.new.self c.args.one.named (view_known c.args.one) c.keep_other.result c.in_default.not-Temporary same c.keep_other.ensures.known;
      err = leaves_err c.args.self.now c.keep_other.new.self c.keep_other.result same c.keep_other.ensures.err;
      taken = ap (λ (names : NameMap). names.scopes) c.keep_other.ensures.others;
      unit = ap (λ (names : NameMap). names.unit) c.keep_other.ensures.others;
      bits = ap (λ (names : NameMap). names.has_bits) c.keep_other.ensures.others;
      fields = ap (λ (names : NameMap). fields_of names.fields) c.keep_other.ensures.others;
    }
