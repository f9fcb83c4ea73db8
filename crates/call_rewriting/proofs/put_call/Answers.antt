-- `call_rewriting::put_call` meets its contract: three appends in a row are one. Assumes nothing.
use Rattle.text.specs.Writer.{appended-more, appended-part}
use Rattle.call_rewriting.proofs.put_call.Goals as goal

pub returns : goal.returns
returns c =
    let a = c.put_all-opened.ensures in
    let b = c.copy-filled.ensures in
    let inside = appended-part a c.args.inside c.args.k c.requires.apart in
    appended-more (appended-more a (rw inside at b)) c.put_all.ensures
