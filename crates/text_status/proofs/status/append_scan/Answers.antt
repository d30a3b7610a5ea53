use Rattle.std.proofs.Common.{arith, refl}
use Rattle.mpeg_scan.specs.declared.refusal.Scan.TheVariants.{NoHead, System, ShortPicture}
use Rattle.text_status.proofs.FaultWords.{numbered}
use Rattle.text_status.proofs.status.append_scan.Goals as goal

pub returns-in-NoHead : goal.returns-in-NoHead
returns-in-NoHead c = record {
  text =
      numbered c.args.fault.now (NoHead c.in-NoHead.at) c.args.into.now.items c.append_numbered.new.into.items _ _
      c.in-NoHead.is refl c.append_numbered.ensures.text;
  len = omega (arith, c.append_numbered.ensures.len);
}

pub returns-in-System : goal.returns-in-System
returns-in-System c = record {
  text =
      numbered c.args.fault.now (System c.in-System.at) c.args.into.now.items
      c.append_numbered-in-System.new.into.items _ _ c.in-System.is refl c.append_numbered-in-System.ensures.text;
  len = omega (arith, c.append_numbered-in-System.ensures.len);
}

pub returns-in-ShortPicture : goal.returns-in-ShortPicture
returns-in-ShortPicture c = record {
  text =
      numbered c.args.fault.now (ShortPicture c.in-ShortPicture.at) c.args.into.now.items
      c.append_numbered-in-ShortPicture.new.into.items _ _ c.in-ShortPicture.is refl
      c.append_numbered-in-ShortPicture.ensures.text;
  len = omega (arith, c.append_numbered-in-ShortPicture.ensures.len);
}
