-- What a typed statement with its objects stands for, and the place of a statement.
use Rattle.std.specs.Prelude.{option_map}
use Rattle.cx_core.specs.Views.{view_stmt, view_type}
use Rattle.cx_rules.specs.UnitWalk.{CStated, CWhere}
use Rattle.cx_stmt_steps.specs.declared.stated.Stated.{Stated}
use Rattle.cx_stmt_steps.specs.declared.site.Site.{Site}

abbrev pub view_stated : Stated → CStated
view_stated one = record { stmt = view_stmt one.stmt; objects = one.objects }

abbrev pub view_site : Site → CWhere
view_site one = record {
  result = view_type one.result_ty.now;
  labels = one.labels.now;
  in_loop = one.in_loop;
  in_switch = option_map (λ type. view_type type.now) one.switch_ty;
}
