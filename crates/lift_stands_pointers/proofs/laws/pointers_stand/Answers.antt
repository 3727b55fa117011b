use Rattle.lift_stands_pointers.proofs.Pointers.{size_stands, usable_stands, moved_stands, distance_stands, difference_stands, equality_stands}
use Rattle.lift_stands_pointers.proofs.laws.pointers_stand.Goals as goal

pub returns : goal.returns
returns c = record {
  size = size_stands;
  usable = usable_stands;
  moved = moved_stands;
  distance = λ images memory others first second one two bytes stands. distance_stands images memory others stands first second one two bytes;
  difference = λ images memory others size first second one two count stands. difference_stands images memory others stands size first second one two count;
  equality = λ images memory others first second one two same stands. equality_stands images memory others stands first second one two same;
}
