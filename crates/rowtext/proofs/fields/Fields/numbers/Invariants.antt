use Rattle.std.proofs.Common.{◌≡◌}
use Rattle.rowtext.specs.Fields.{left}
use Rattle.rowtext.proofs.Numbered.{Sofar}
use Rattle.rowtext.proofs.fields.Fields.numbers.Given as goal

abbrev pub invariant-loop-value : goal.invariant-loop-value
invariant-loop-value g l = record {
  same_form : l.self.form ≡ l.initial.self.form;
  sofar : Sofar l.initial.self.form g.row.N (left l.initial.self) l.value-index l.value-items (left l.self);
}
