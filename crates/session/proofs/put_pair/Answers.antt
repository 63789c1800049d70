-- `session::put_pair` meets its contract. Assumes nothing.
use Rattle.session.proofs.Writing.{pair}
use Rattle.session.proofs.put_pair.Goals as goal

pub returns : goal.returns
returns c = pair c.args.buf.now c.put_short.new.buf _ c.args.at c.args.x c.args.y c.requires c.put_short.ensures c.put_short-2.ensures
