use Rattle.page_scan.proofs.Views.{looks}
use Rattle.page_scan.proofs.scanner.Scanner.look.Goals as goal

pub returns : goal.returns
returns c =
    looks c.self.inside.window.items c.deref.result.now c.self.inside.from c.self.inside.to
    c.pass_sectors-passed.result.bytes c.pass_sectors-passed.result.found c.pass_sectors-passed.new.page
    c.args.self.now c.deref.ensures.value c.self.view_is c.pass_sectors-passed.ensures.within
    c.pass_sectors-passed.ensures.sees
