use Rattle.cx_typed.proofs.Completing.{record_list_goes}
use Rattle.cx_typed.proofs.Listed.{no_width_goes, width_goes, member_goes, no_declarators_go, more_declarators_go, declaration_goes, no_decls_go, more_decls_go}
use Rattle.cx_typed.proofs.member_forms_are_known.Goals as goal

pub returns : goal.returns
returns c = record {
  no_width = no_width_goes;
  width = width_goes;
  member = member_goes;
  no_declarators = no_declarators_go;
  more_declarators = more_declarators_go;
  declaration = declaration_goes;
  no_decls = no_decls_go;
  more_decls = more_decls_go;
  record_list = record_list_goes;
}
