use Rattle.image_listing.proofs.Told.{lists_all, lists_some}
use Rattle.image_listing.proofs.listing.list.Goals as goal

pub returns-in-Ok-clause-told : goal.returns-in-Ok-clause-told
returns-in-Ok-clause-told g c =
    lists_all (g.Q.ByteSource.left c.args.image.now) (g.Q.ByteSource.left c.read_catalogue.new.image)
    (g.O.ByteSink.written c.args.out.now) (g.O.ByteSink.written c.put.new.out) c.in_ok-catalogue.catalogue.pages
    c.in_ok-lines.lines.tallies tt (record {
      all = c.in_ok-catalogue.ensures.all;
      read = c.in_ok-catalogue.ensures.read;
      pages_rise = c.of.ensures.pages_rise;
      rise = c.in_ok-lines.ensures.rise;
      tallies_are = c.in_ok-lines.ensures.tallies;
    }) c.in-Ok.ensures.ok

pub returns-clause-told : goal.returns-clause-told
returns-clause-told g c =
    lists_some (g.Q.ByteSource.left c.args.image.now) (g.Q.ByteSource.left c.read_catalogue.new.image)
    (g.O.ByteSink.written c.args.out.now) (g.O.ByteSink.written c.put.new.out) c.in_ok-catalogue.catalogue.pages
    c.in_ok-lines.lines.tallies (record {
      all = c.in_ok-catalogue.ensures.all;
      read = c.in_ok-catalogue.ensures.read;
      pages_rise = c.of.ensures.pages_rise;
      rise = c.in_ok-lines.ensures.rise;
      tallies_are = c.in_ok-lines.ensures.tallies;
    }) c.in-Err.ensures.failed
