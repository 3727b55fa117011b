-- Lists that hold one string literal.
use Rattle.std.proofs.Common.{◌≡◌, refl, ℕ, List, true, false}
use Rattle.cx_init_steps.specs.Entries.{is_text_init, text_behind, is_text_entry}
use Rattle.cx_rules.specs.Pieces.{holds_text, is_text}
use Rattle.cx_tree.specs.Trees.{ExprTree, Name, Number, Letter, Text, Paren, Index, Call, Dot, Arrow, PostUp, PostDown, Literal, PreUp, PreDown, Unary, SizeofExpr, SizeofType, Cast, Binary, Cond, Assign, Comma, EntryTree, Entry, EntryTrees, no_entries, more_entries, InitialiserTree, Single, Braced, DesignatorTrees, no_designators, more_designators}

alone : (value : ExprTree) (lines : List ℕ) → is_text value ≡ holds_text (more_entries (Entry no_designators (Single value) lines) no_entries)
alone (Name name own) lines = refl
alone (Number value ty own) lines = refl
alone (Letter value own) lines = refl
alone (Text parts own) lines = refl
alone (Paren inner own) lines = refl
alone (Index of index own) lines = refl
alone (Call of args own) lines = refl
alone (Dot of member own) lines = refl
alone (Arrow of member own) lines = refl
alone (PostUp of own) lines = refl
alone (PostDown of own) lines = refl
alone (Literal of list own) lines = refl
alone (PreUp on own) lines = refl
alone (PreDown on own) lines = refl
alone (Unary op on own) lines = refl
alone (SizeofExpr on own) lines = refl
alone (SizeofType of own) lines = refl
alone (Cast to on own) lines = refl
alone (Binary left op right own) lines = refl
alone (Cond condition if_true if_false own) lines = refl
alone (Assign left op right own) lines = refl
alone (Comma left right own) lines = refl

pub one_entry : (one : EntryTree) → is_text_entry one ≡ holds_text (more_entries one no_entries)
one_entry (Entry no_designators (Single value) lines) = alone value lines
one_entry (Entry no_designators (Braced list) lines) = refl
one_entry (Entry (more_designators first others) init lines) = refl

beside : (value : ExprTree) (lines : List ℕ) (second : EntryTree) (others : EntryTrees) → false ≡ holds_text (more_entries (Entry no_designators (Single value) lines) (more_entries second others))
beside (Name name own) lines second others = refl
beside (Number value ty own) lines second others = refl
beside (Letter value own) lines second others = refl
beside (Text parts own) lines second others = refl
beside (Paren inner own) lines second others = refl
beside (Index of index own) lines second others = refl
beside (Call of args own) lines second others = refl
beside (Dot of member own) lines second others = refl
beside (Arrow of member own) lines second others = refl
beside (PostUp of own) lines second others = refl
beside (PostDown of own) lines second others = refl
beside (Literal of list own) lines second others = refl
beside (PreUp on own) lines second others = refl
beside (PreDown on own) lines second others = refl
beside (Unary op on own) lines second others = refl
beside (SizeofExpr on own) lines second others = refl
beside (SizeofType of own) lines second others = refl
beside (Cast to on own) lines second others = refl
beside (Binary left op right own) lines second others = refl
beside (Cond condition if_true if_false own) lines second others = refl
beside (Assign left op right own) lines second others = refl
beside (Comma left right own) lines second others = refl

pub two_entries : (one second : EntryTree) (others : EntryTrees) → false ≡ holds_text (more_entries one (more_entries second others))
two_entries (Entry no_designators (Single value) lines) second others = beside value lines second others
two_entries (Entry no_designators (Braced list) lines) second others = refl
two_entries (Entry (more_designators first rest) init lines) second others = refl
