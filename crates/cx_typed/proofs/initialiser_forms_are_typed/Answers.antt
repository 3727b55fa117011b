use Rattle.cx_typed.proofs.Initialising.{single_goes, braced_goes, single_nowhere, braced_nowhere, list_goes, no_entries_go, more_entries_go, entry_goes, designated_goes, given_goes, given_list_goes, element_goes, member_goes, no_more_goes, more_designators_go}
use Rattle.cx_typed.proofs.initialiser_forms_are_typed.Goals as goal

pub returns : goal.returns
returns c = record {
  single = single_goes;
  braced = braced_goes;
  single_nowhere = single_nowhere;
  braced_nowhere = braced_nowhere;
  list = list_goes;
  none = no_entries_go;
  more = more_entries_go;
  entry = entry_goes;
  designated = designated_goes;
  given = given_goes;
  given_list = given_list_goes;
  element = element_goes;
  member = member_goes;
  no_more = no_more_goes;
  more_designators = more_designators_go;
}
