use Rattle.std.proofs.Common.{◌≡◌, take}
use Rattle.schema_text.proofs.fields.list_of.Given as goal

abbrev pub invariant-loop-field : goal.invariant-loop-field
invariant-loop-field l = l.list ≡ record { fields = take l.field-index l.fields; nullable = l.nullable; keys = l.keys }
