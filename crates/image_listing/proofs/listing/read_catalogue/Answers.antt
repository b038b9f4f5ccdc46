use Rattle.std.proofs.Common.{Ok, ap, arith}
use Rattle.image_listing.proofs.Keeping.{told_next, told_all, told_read}
use Rattle.image_listing.proofs.listing.read_catalogue.Goals as goal

pub returns-in-Ok-None-clause-all : goal.returns-in-Ok-None-clause-all
returns-in-Ok-None-clause-all g c =
    told_all (g.Q.ByteSource.left c.args.image.now) _ _ c.in-Ok-None.field-0 _ c.loop.catalogue.pages
    c.loop.invariant.stands c.in-Ok-None.ensures.scans c.in-Ok-None.field-0-is

pub returns-in-Ok-None-clause-read : goal.returns-in-Ok-None-clause-read
returns-in-Ok-None-clause-read g c =
    told_read (g.Q.ByteSource.left c.args.image.now) _ _ c.loop.catalogue.pages c.loop.invariant.stands
    (c.in-Ok-None.ensures.ended (ap Ok c.in-Ok-None.field-0-is))

pub loop-preserved : goal.loop-preserved
loop-preserved g c = record {
  stands = told_next (g.Q.ByteSource.left c.args.image.now) _ _ c.in-Ok-Some.field-0 c.in-Ok-Some.found c.next.new.page
      c.loop.catalogue.pages c.note.new.self.pages c.loop.invariant.stands c.in-Ok-Some.ensures.scans
      c.in-Ok-Some.field-0-is c.in_ok-note-in-Ok-Some.ensures;
  later = omega (arith, c.loop.invariant.later, c.in-Ok-Some.ensures.cause.later);
}
